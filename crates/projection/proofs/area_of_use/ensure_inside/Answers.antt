-- A place is tested as it stands; a refusal stays.
use mathlib.Core.Path.{refl}
use Rattle.projection.specs.AreaOfUse.{ensure_inside}
use Rattle.refusals.proofs.Refused.{handed_on}
use Rattle.projection.proofs.InArea.{refused_in_area}
use Rattle.projection.proofs.area_of_use.ensure_inside.Goals as goal

pub returns-in_err-lon : goal.returns-in_err-lon
unfolding ensure_inside
returns-in_err-lon c = rw (handed_on c.from_residual.ensures, c.in_err-lon.was) (refl, refused_in_area _ _)

pub returns-in_err-validate_normalised : goal.returns-in_err-validate_normalised
unfolding ensure_inside
returns-in_err-validate_normalised c =
    rw (handed_on c.from_residual-in_err-validate_normalised.ensures, c.in_ok-lon.was, ← c.validate_normalised.ensures.0, c.in_err-validate_normalised.was) (refl, refused_in_area _ _)

pub returns : goal.returns
unfolding ensure_inside
returns c =
    rw c.in_ok-lon.was (rw (← c.validate_normalised.ensures.0, c.in_ok-validate_normalised.was) refl, c.validate_normalised.ensures.1 c.in_ok-validate_normalised.was)
