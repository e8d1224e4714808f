-- Arm by arm, and by what the area holds.
use mathlib.Core.Path.{refl}
use Rattle.projection.specs.AreaOfUse.{validate_normalised}
use Rattle.refusals.proofs.Refused.{refused}
use Rattle.projection.proofs.InArea.{anywhere_in_area, within_in_area}
use Rattle.projection.proofs.area_of_use.validate_normalised.Goals as goal

pub returns-in-None : goal.returns-in-None
unfolding validate_normalised
returns-in-None c = rw c.in-None.is (refl, λ z. anywhere_in_area _)

pub returns-then-holds : goal.returns-then-holds
unfolding validate_normalised
returns-then-holds c = rw c.in-Some.is (rw (← c.holds.ensures.0, c.if-holds.true) refl, λ z. within_in_area _ _ _ (c.holds.ensures.1 (rw c.if-holds.true tt)))

pub returns-else-holds : goal.returns-else-holds
unfolding validate_normalised
returns-else-holds c = rw c.in-Some.is (rw (← c.holds.ensures.0, c.if-holds.false) refl, λ z. refused z)
