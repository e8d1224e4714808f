-- What falls is how many units y has.
use lib.Ieee.{binary64}
use Rattle.float.specs.Units.{unit_count}
use Rattle.trigonometry.proofs.turns.+far_remainder.Given as goal

abbrev pub decreases-far_remainder : goal.decreases-far_remainder
decreases-far_remainder l = unit_count binary64 l.y
