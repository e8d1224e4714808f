-- A projection that was refused has its own refusal; else the kind's own answer, which is on the map, where the area of use holds it.
use mathlib.Core.Path.{refl}
use Rattle.refusals.proofs.Refused.{handed_on}
use Rattle.projection.proofs.InArea.{inside_on_the_map, refused_in_area}
use Rattle.projection.proofs.OnTheMap.{refused}
use Rattle.kinds.specs.Kinds.{formula_in, inverse_in}
use Rattle.kinds.proofs.Projection.inverse_in.Goals as goal

pub returns-in_err-built : goal.returns-in_err-built
unfolding inverse_in formula_in
returns-in_err-built c = rw (handed_on c.from_residual.ensures, c.in_err-built.was) (refl, refused _, refused_in_area _ _)

pub returns : goal.returns
unfolding inverse_in formula_in
returns c = let by_kind = c.inverse.ensures in
    let inside = c.ensure_inside.ensures in
    rw (c.in_ok-built.was, ← by_kind.0) (inside.0, rw inside.0 (inside_on_the_map _ _ _ by_kind.1), inside.1)
