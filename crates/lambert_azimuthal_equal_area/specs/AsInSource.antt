-- Where our definitions do not have the source's words, the source's words: it asks what is wrong, where ours ask what is right, and asks twice whether a point is at the centre.
-- proofs/AsInSource: for every f64, NaN too, they give what ours give.
use Rattle.std.specs.Prelude.{Bool, not, cond, ◌||◌, Float, Result, Ok, Err}
use Rattle.std.specs.Result.{result_and}
use Rattle.std.specs.Float.Ieee.Scale.{finite}
use Rattle.float.specs.Operators.{◌⊕◌, ◌≺◌, ◌≼◌}
use Rattle.float.specs.Constants.{+0}
use Rattle.float.specs.Sign.{abs}
use Rattle.ellipsoid.specs.declared.Ellipsoid.{Ellipsoid}
use Rattle.refusals.specs.declared.Refusal.{Refusal}
use Rattle.refusals.specs.declared.Refusal.TheVariants.{FalseEasting, FalseNorthing, PolarQ, OriginNearPole, OriginScale}
use Rattle.authalic.specs.Authalic.{geodetic_from_authalic}
use Rattle.projection.specs.Checks.{with_origin, validate_angle, validate_latitude_param, validate_offset}
use Rattle.projection.specs.Answer.{Answer}
use Rattle.lambert_azimuthal_equal_area.specs.LambertAzimuthalEqualArea.{POLAR_EPSILON, RHO_EPSILON, derived}
use Rattle.lambert_azimuthal_equal_area.specs.Inverse.{bounded_arcsine}
use Rattle.lambert_azimuthal_equal_area.specs.declared.Aspect.{Aspect}
use Rattle.lambert_azimuthal_equal_area.specs.declared.Aspect.TheVariants.{Oblique, NorthPolar, SouthPolar}
use Rattle.lambert_azimuthal_equal_area.specs.declared.LambertAzimuthalEqualArea.{LambertAzimuthalEqualArea}

-- 14: `!d.is_finite() || d <= 0.0`
abbrev pub source_scale_check : LambertAzimuthalEqualArea → Result LambertAzimuthalEqualArea Refusal
source_scale_check p = cond (not (finite p.d) || p.d ≼ +0) (Err OriginScale) (Ok p)

-- 13, in one arm of the source's `match aspect`
abbrev pub source_origin_check : Aspect → LambertAzimuthalEqualArea → Result LambertAzimuthalEqualArea Refusal
source_origin_check Oblique p = cond (abs p.cos_beta0 ≺ POLAR_EPSILON) (Err OriginNearPole) (source_scale_check p)
source_origin_check NorthPolar p = source_scale_check p
source_origin_check SouthPolar p = source_scale_check p

-- 12: `q_p <= 0.0 || !q_p.is_finite()`
abbrev pub source_checked : LambertAzimuthalEqualArea → Result LambertAzimuthalEqualArea Refusal
source_checked p = cond (p.q_p ≼ +0 || not (finite p.q_p)) (Err PolarQ) (source_origin_check p.aspect p)

-- The source's new_internal, a `result_and` being its `?`. It works out the numbers between the checks, each as ours.
abbrev pub source_built : Ellipsoid → Float → Float → Float → Float → Bool → Result LambertAzimuthalEqualArea Refusal
source_built ellipsoid lon0 lat0 false_easting false_northing spherical =
    result_and (validate_angle lon0)
    (result_and (validate_latitude_param lat0)
    (result_and (validate_offset false_easting FalseEasting)
    (result_and (validate_offset false_northing FalseNorthing)
    (source_checked (derived ellipsoid (with_origin lon0 lat0 false_easting false_northing) spherical)))))

-- about a pole: `let beta = if rho < RHO_EPSILON { .. }`, and again `let lon = if rho < RHO_EPSILON { .. }`
abbrev pub source_polar_place : LambertAzimuthalEqualArea → Float → Float → Float → Answer
source_polar_place p rho q_over_q_p d_lon =
    let beta = cond (rho ≺ RHO_EPSILON) p.lat0 (bounded_arcsine q_over_q_p) in
    let lat = geodetic_from_authalic beta p.e2 in
    let lon = cond (rho ≺ RHO_EPSILON) p.lon0 (p.lon0 ⊕ d_lon) in
    Ok (lon, lat)
