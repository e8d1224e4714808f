-- What passes 25: the edges of an area that a projection was built with are finite, so that all comparisons with them are exact.
use mathlib.Core.Path.{◌≡◌, refl, subst}
use mathlib.Core.Bool.{Bool, true, false, cond, ◌&&◌, ◌||◌}
use lib.Dec.{T}
use lib.Ieee.Scale.{finite}
use Rattle.float.specs.Operators.{◌≺◌}
use Rattle.float.specs.Constants.{PI}
use Rattle.float.specs.Sign.{abs}
use Rattle.std.specs.Prelude.{Err}
use Rattle.refusals.specs.declared.Refusal.TheVariants.{AreaEdges}
use Rattle.projection.specs.Checks.{passed}
use Rattle.projection.specs.Bound.{LAT_BOUND}
use Rattle.projection.specs.AreaOfUse.{validate_area}
use Rattle.refusals.proofs.Refused.{refused}
use Rattle.projection.specs.InArea.{FiniteEdges}
use Rattle.projection.specs.declared.Area.{Area}

pub edges_finite : (area : Area) → validate_area area ≡ passed → FiniteEdges area
unfolding validate_area
edges_finite area z =
    go (finite area.west) (finite area.east) (finite area.south) (finite area.north)
    ((PI ≺ abs area.west || PI ≺ abs area.east) || (LAT_BOUND ≺ abs area.south || LAT_BOUND ≺ abs area.north) || area.north ≺ area.south) refl refl refl refl z
  where
    go : (w e s n bad : Bool) → w ≡ finite area.west → e ≡ finite area.east → s ≡ finite area.south → n ≡ finite area.north
        → cond ((w && e) && (s && n)) (cond bad (Err AreaEdges) passed) (Err AreaEdges) ≡ passed → FiniteEdges area
    go true true true true bad p q r t k =
        record { west_finite = subst T p tt; east_finite = subst T q tt; south_finite = subst T r tt; north_finite = subst T t tt }
    go false e s n bad p q r t k = refused k
    go true false s n bad p q r t k = refused k
    go true true false n bad p q r t k = refused k
    go true true true false bad p q r t k = refused k
