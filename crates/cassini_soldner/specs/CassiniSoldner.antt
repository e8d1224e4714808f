-- Cassini-Soldner: Snyder chapter 13, IOGP 7-2 method 9806, in the source's order of operations.
use Rattle.std.specs.Prelude.{cond, Float, Result, Ok}
use Rattle.std.specs.Result.{result_and}
use Rattle.std.specs.Float.Ieee.{neg}
use Rattle.float.specs.Operators.{◌⊕◌, ◌⊖◌, ◌⊗◌, ◌⊘◌, ◌≺◌}
use Rattle.float.specs.Constants.{+0, one, FRAC_PI_2}
use Rattle.float.specs.Sign.{abs}
use Rattle.root.specs.Root.{root}
use Rattle.trigonometry.specs.Trigonometry.{sine, cosine, tangent}
use Rattle.fixed.specs.Powers.{powf_3_2}
use Rattle.ellipsoid.specs.Ellipsoid.{e2, ep2}
use Rattle.ellipsoid.specs.declared.Ellipsoid.{Ellipsoid}
use Rattle.meridian.specs.Meridian.{third_flattening}
use Rattle.refusals.specs.declared.Refusal.{Refusal}
use Rattle.projection.specs.Answer.{Answer}
use Rattle.projection.specs.Checks.{with_origin, validate_settings, validate_projected}
use Rattle.projection.specs.Starts.{enter, entered}
use Rattle.projection.specs.Ends.{ensure_finite_xy, finish}
use Rattle.projection.specs.declared.Settings.{Settings}
use Rattle.cassini_soldner.specs.Constants.{POLE_EPSILON}
use Rattle.cassini_soldner.specs.Arc.{arc_coefficients, meridional_arc, footpoint_coefficients, footpoint_latitude}
use Rattle.cassini_soldner.specs.Series.{easting_series, northing_series, longitude_series, latitude_series}
use Rattle.cassini_soldner.specs.declared.CassiniSoldner.{CassiniSoldner}

-- M₀ is the arc to lat0 (Snyder 3-21). What μ divides by (7-19) is the arc's first coefficient; e₁ (3-24) is the third flattening.
unfoldable pub derived : Ellipsoid → Settings → CassiniSoldner
derived ellipsoid settings =
    let a = ellipsoid.a in
    let arc = arc_coefficients a (e2 ellipsoid) in
    record {
      a = a;
      e2 = e2 ellipsoid;
      ep2 = ep2 ellipsoid;
      a_one_minus_e2 = a ⊗ (one ⊖ e2 ellipsoid);
      lon0 = settings.lon0;
      false_easting = settings.false_easting;
      false_northing = settings.false_northing;
      m0 = meridional_arc arc settings.lat0;
      arc = arc;
      mu_denom = arc.coeff0;
      back = footpoint_coefficients (third_flattening (e2 ellipsoid));
    }

-- 6 to 10, or what is derived
unfoldable pub new : Ellipsoid → Settings → Result CassiniSoldner Refusal
new ellipsoid settings = result_and (validate_settings (with_origin settings.lon0 settings.lat0 settings.false_easting settings.false_northing)) (Ok (derived ellipsoid settings))

-- Snyder 13-7 and 13-8, with N (4-20), T (8-13), C (8-14), A (8-15)
unfoldable pub projected : CassiniSoldner → Float → Float → Answer
projected p d_lon lat =
    let n_val = p.a ⊘ root (one ⊖ p.e2 ⊗ sine lat ⊗ sine lat) in
    let t = tangent lat ⊗ tangent lat in
    let c = p.ep2 ⊗ cosine lat ⊗ cosine lat in
    let a_coeff = d_lon ⊗ cosine lat in
    let m = meridional_arc p.arc lat in
    ensure_finite_xy (p.false_easting ⊕ n_val ⊗ easting_series a_coeff t c)
    (p.false_northing ⊕ m ⊖ p.m0 ⊕ n_val ⊗ tangent lat ⊗ northing_series a_coeff t c)

unfoldable pub forward : CassiniSoldner → Float → Float → Answer
forward p lon lat = entered (λ d_lon. projected p d_lon lat) (enter lon lat p.lon0)

-- Snyder 13-10 and 13-11, with N₁ (8-23), R₁ (8-24), T₁ (8-22), D (13-13)
unfoldable pub place : CassiniSoldner → Float → Float → Answer
place p x lat1 =
    let w1 = one ⊖ p.e2 ⊗ sine lat1 ⊗ sine lat1 in
    let n1 = p.a ⊘ root w1 in
    let r1 = p.a_one_minus_e2 ⊘ powf_3_2 w1 in
    let t1 = tangent lat1 ⊗ tangent lat1 in
    let d = (x ⊖ p.false_easting) ⊘ n1 in
    Ok (p.lon0 ⊕ longitude_series d t1 ⊘ cosine lat1, lat1 ⊖ n1 ⊗ tangent lat1 ⊘ r1 ⊗ latitude_series d t1)

-- The source's own rule, not Snyder's: where the footpoint is a pole, the place is that pole, whatever x is.
unfoldable pub from_footpoint : CassiniSoldner → Float → Float → Answer
from_footpoint p x lat1 =
    cond (abs (cosine lat1) ≺ POLE_EPSILON) (Ok (p.lon0, cond (+0 ≺ lat1) FRAC_PI_2 (neg FRAC_PI_2))) (place p x lat1)

-- φ₁ of μ₁ = M₁ / μ's denominator (7-19), M₁ = M₀ + y (13-12)
unfoldable pub footpoint : CassiniSoldner → Float → Float
footpoint p y =
    footpoint_latitude p.back ((p.m0 ⊕ y ⊖ p.false_northing) ⊘ p.mu_denom)

-- 20, or the place with 01's "formula's longitude"
unfoldable pub formula : CassiniSoldner → Float → Float → Answer
formula p x y = result_and (validate_projected x y) (from_footpoint p x (footpoint p y))

unfoldable pub inverse : CassiniSoldner → Float → Float → Answer
inverse p x y = finish (formula p x y)
