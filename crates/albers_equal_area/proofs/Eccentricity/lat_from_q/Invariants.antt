-- The rounds that are left give what all of them give, and a round that is given its two quotients is the definition's (`given_quotients`).
use Prim.Native.Nat.{◌≤◌, ◌-◌}
use mathlib.Core.Path.{◌≡◌}
use Rattle.projection.specs.Iteration.{converge}
use Rattle.albers_equal_area.specs.OnEllipsoid.{latitude_round, lat_from_q, STEPS, TOLERANCE}
use Rattle.albers_equal_area.proofs.Eccentricity.lat_from_q.Given as goal

abbrev pub invariant-loop : goal.invariant-loop
invariant-loop l = (l.counter ≤ STEPS) × (converge (latitude_round l.q l.self.e l.self.e2) l.lat (STEPS - l.counter) TOLERANCE ≡ lat_from_q l.q l.self.e l.self.e2)

abbrev pub decreases-loop : goal.decreases-loop
decreases-loop l = STEPS - l.counter
