-- The branches are the definition's, which answers only places on the map.
use mathlib.Core.Path.{◌≡◌, sym, subst}
use lib.Dec.{T}
use lib.Ieee.{Float, binary64, fits}
use Rattle.projection.specs.Ends.{ensure_finite_lon_lat, finish}
use Rattle.projection.specs.OnTheMap.{OnTheMap}
use Rattle.projection.specs.Answer.{Answer}
use Rattle.std.specs.Prelude.{Ok}
use Rattle.projection.proofs.OnTheMap.{finish_on_the_map}
use Rattle.projection.proofs.ends.ensure_finite_lon_lat.Goals as goal

both : (lon lat : Float) → T (fits binary64 lon) → T (fits binary64 lat) → {r : Answer} → r ≡ ensure_finite_lon_lat lon lat
    → (r ≡ ensure_finite_lon_lat lon lat) × OnTheMap (Ok (lon, lat)) r
unfolding finish
both lon lat fit_lon fit_lat e = (e, rw e (finish_on_the_map (Ok (lon, lat)) (fit_lon, fit_lat)))

pub returns-then-abs : goal.returns-then-abs
unfolding ensure_finite_lon_lat
returns-then-abs c = both c.args.lon c.args.lat (subst T (sym c.well_formed.0.1) tt) (subst T (sym c.well_formed.1.0.1) tt)
    (simp (← c.abs.ensures, ← c.is_finite-2.ensures, ← c.is_finite.ensures, c.if-abs.true, c.if-is_finite.true))

pub returns-else-abs : goal.returns-else-abs
unfolding ensure_finite_lon_lat
returns-else-abs c = both c.args.lon c.args.lat (subst T (sym c.well_formed.0.1) tt) (subst T (sym c.well_formed.1.0.1) tt)
    (simp (← c.normalize_longitude.ensures, ← c.abs.ensures, ← c.is_finite-2.ensures, ← c.is_finite.ensures, c.if-abs.false, c.if-is_finite.true))

pub returns-else-is_finite : goal.returns-else-is_finite
unfolding ensure_finite_lon_lat
returns-else-is_finite c = both c.args.lon c.args.lat (subst T (sym c.well_formed.0.1) tt) (subst T (sym c.well_formed.1.0.1) tt)
    (simp (← c.is_finite-2.ensures, ← c.is_finite.ensures, c.if-is_finite.false))
