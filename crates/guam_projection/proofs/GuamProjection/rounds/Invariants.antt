-- The rounds that are left give what all of them give.
use Prim.Native.Nat.{◌≤◌, ◌-◌}
use mathlib.Core.Path.{◌≡◌}
use Rattle.guam_projection.specs.GuamProjection.{round_from, repeated, rounds, STEPS}
use Rattle.guam_projection.proofs.GuamProjection.rounds.Given as goal

abbrev pub invariant-loop : goal.invariant-loop
invariant-loop l = (l.counter ≤ STEPS) × (repeated (round_from l.self l.en l.ys l.x2) (STEPS - l.counter) l.last ≡ rounds l.self l.en l.ys l.x2)

abbrev pub decreases-loop : goal.decreases-loop
decreases-loop l = STEPS - l.counter
