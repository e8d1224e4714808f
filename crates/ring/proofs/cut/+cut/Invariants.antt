-- What falls is how many cuts are left.
use Rattle.ring.proofs.cut.+cut.Given as goal

abbrev pub decreases-cut : goal.decreases-cut
decreases-cut l = l.left
