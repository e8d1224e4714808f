-- A place inside has the kind's own answer, which has 16 and 17 in it; one outside has its first refusal.
use mathlib.Core.Path.{sym, refl}
use Rattle.refusals.proofs.Refused.{handed_on}
use Rattle.kinds.specs.Kinds.{forward}
use Rattle.kinds.proofs.AreaOfUse.{checked_by_kind}
use Rattle.kinds.proofs.Projection.forward.Goals as goal

pub returns-in_err-built : goal.returns-in_err-built
unfolding forward
returns-in_err-built c = rw (handed_on c.from_residual.ensures, c.in_err-built.was) refl

pub returns-in-Ok : goal.returns-in-Ok
unfolding forward
returns-in-Ok c = let args = c.args in
    rw (c.forward.ensures, c.in_ok-built.was, ← c.validate_place.ensures, c.in-Ok.is) (sym (checked_by_kind c.in_ok-built.built args.self.en args.lon args.lat))

pub returns-in_err-validate_lon_lat-in-Err : goal.returns-in_err-validate_lon_lat-in-Err
unfolding forward
returns-in_err-validate_lon_lat-in-Err c =
    rw (handed_on c.from_residual-in_err-validate_lon_lat-in-Err.ensures, c.in_ok-built.was, ← c.validate_lon_lat.ensures, c.in_err-validate_lon_lat-in-Err.was) refl

pub returns-in_ok-validate_lon_lat-in-Err : goal.returns-in_ok-validate_lon_lat-in-Err
unfolding forward
returns-in_ok-validate_lon_lat-in-Err c =
    rw (c.in_ok-built.was, ← c.validate_lon_lat.ensures, c.in_ok-validate_lon_lat-in-Err.was, ← c.validate_place.ensures, c.in-Err.is) refl
