-- The first refusal among the corners still to come is that of them all, as those before them are answered.
use mathlib.Core.Path.{◌≡◌}
use Rattle.ring.specs.Ring.{before, corners}
use Rattle.ring.specs.Tally.{first_of}
use Rattle.ring.proofs.InRingOrder.{ahead}
use Rattle.std.specs.Prelude.{Ok}
use Rattle.ring.proofs.corners.first_corner.Given as goal

abbrev pub invariant-loop-x : goal.invariant-loop-x
invariant-loop-x l = first_of (corners l.p l.lon l.lat) ≡ first_of (before (Ok l.first) (ahead l.p l.x-iterator))
