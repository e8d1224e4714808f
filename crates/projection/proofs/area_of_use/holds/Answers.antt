-- The same comparisons; what they say in units is `holds_within`.
use mathlib.Core.Path.{refl, sym, subst}
use lib.Dec.{T}
use Rattle.projection.specs.AreaOfUse.{holds}
use Rattle.projection.proofs.InArea.{Edges, holds_within}
use Rattle.projection.proofs.area_of_use.holds.Goals as goal

pub returns : goal.returns
unfolding holds
returns c = let edges : Edges c.args.area = let fields = c.well_formed.0.1.1 in
    record {
      west_held = subst T (sym fields.0.1) tt;
      east_held = subst T (sym fields.1.0.1) tt;
      south_held = subst T (sym fields.1.1.0.1) tt;
      north_held = subst T (sym fields.1.1.1.0.1) tt;
    } in
    (refl, holds_within _ _ _ (edges) (subst T (sym c.well_formed.1.0.1) tt) (subst T (sym c.well_formed.1.1.0.1) tt))
