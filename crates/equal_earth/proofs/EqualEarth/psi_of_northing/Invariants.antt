-- The rounds that are left give what all of them give.
use Prim.Native.Nat.{◌≤◌, ◌-◌}
use mathlib.Core.Path.{◌≡◌}
use Rattle.projection.specs.Iteration.{converge}
use Rattle.equal_earth.specs.EqualEarth.{newton, psi_of_northing, STEPS, TOLERANCE}
use Rattle.equal_earth.proofs.EqualEarth.psi_of_northing.Given as goal

abbrev pub invariant-loop : goal.invariant-loop
invariant-loop l = (l.counter ≤ STEPS) × (converge (newton l.ys) l.yc (STEPS - l.counter) TOLERANCE ≡ psi_of_northing l.ys)

abbrev pub decreases-loop : goal.decreases-loop
decreases-loop l = STEPS - l.counter
