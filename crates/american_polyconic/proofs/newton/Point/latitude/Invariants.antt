-- The steps that are left give what all of them give.
use Prim.Native.Nat.{◌≤◌, ◌-◌}
use mathlib.Core.Path.{◌≡◌}
use Rattle.projection.specs.Iteration.{iterate}
use Rattle.american_polyconic.specs.Tolerances.{STEPS}
use Rattle.american_polyconic.specs.Newton.{step, latitude}
use Rattle.american_polyconic.proofs.newton.Point.latitude.Given as goal

abbrev pub invariant-loop : goal.invariant-loop
invariant-loop l = (l.counter ≤ STEPS) × (iterate (step l.self) (STEPS - l.counter) l.phi ≡ latitude l.self)

abbrev pub decreases-loop : goal.decreases-loop
decreases-loop l = STEPS - l.counter
