-- The source's words are ours: its negated questions are the opposites of ours, and its checks in turn are our first fault.
use mathlib.Core.Path.{◌≡◌, refl, ◌∙◌}
use mathlib.Core.Bool.{Bool, true, false, not, cond, ◌&&◌}
use lib.Ieee.{Float}
use lib.Ieee.Scale.{finite}
use Rattle.std.specs.Prelude.{Result, Ok, Err}
use Rattle.std.specs.Result.{result_and}
use Rattle.float.specs.Operators.{◌⊕◌, ◌≺◌}
use Rattle.float.specs.Constants.{+0}
use Rattle.float.specs.Sign.{abs}
use Rattle.ellipsoid.specs.declared.Ellipsoid.{Ellipsoid}
use Rattle.ellipsoid.proofs.Negated.{zero_finite, not_above, not_above_first}
use Rattle.refusals.specs.declared.Refusal.{Refusal}
use Rattle.refusals.specs.declared.Refusal.TheVariants.{PolarQ, OriginNearPole, OriginScale}
use Rattle.refusals.proofs.Refused.{and_and}
use Rattle.authalic.specs.Authalic.{geodetic_from_authalic}
use Rattle.projection.specs.Answer.{Answer, pair}
use Rattle.projection.specs.Checks.{passed}
use Rattle.projection.specs.MapEdge.{beyond_edge}
use Rattle.projection.specs.declared.Frame.TheVariants.{Held}
use Rattle.projection.specs.declared.Settings.{Settings}
use Rattle.projection.proofs.AsInSource.{origin_as_in_source}
use Rattle.lambert_azimuthal_equal_area.specs.LambertAzimuthalEqualArea.{POLAR_EPSILON, RHO_EPSILON, derived, validate_positive, validate_origin, fault, checked, built}
use Rattle.lambert_azimuthal_equal_area.specs.Inverse.{judge, judged, bounded_arcsine, polar_place}
use Rattle.lambert_azimuthal_equal_area.specs.AsInSource.{source_scale_check, source_origin_check, source_checked, source_built, source_polar_place}
use Rattle.lambert_azimuthal_equal_area.specs.declared.Aspect.{Aspect}
use Rattle.lambert_azimuthal_equal_area.specs.declared.Aspect.TheVariants.{Oblique, NorthPolar, SouthPolar}
use Rattle.lambert_azimuthal_equal_area.specs.declared.LambertAzimuthalEqualArea.{LambertAzimuthalEqualArea}
use Rattle.lambert_azimuthal_equal_area.specs.declared.inverse.Click.TheVariants.{AtCentre, OnMap}

-- ---- the constructors

-- a test that is failed, for the refusal that a check gives
fails : (b : Bool) (r : Refusal) (a : Result LambertAzimuthalEqualArea Refusal) → cond b (Err r) a ≡ result_and (cond b (Err r) passed) a
fails true r a = refl
fails false r a = refl

-- a test that is to be passed
passes : (b : Bool) (r : Refusal) (a : Result LambertAzimuthalEqualArea Refusal) → cond (not b) (Err r) a ≡ result_and (cond b passed (Err r)) a
passes true r a = refl
passes false r a = refl

positive : (x : Float) (r : Refusal) (a : Result LambertAzimuthalEqualArea Refusal)
    → cond (not (finite x && +0 ≺ x)) (Err r) a ≡ result_and (validate_positive x r) a
unfolding validate_positive
positive x r a = passes (finite x && +0 ≺ x) r a

scale_check : (p : LambertAzimuthalEqualArea) → source_scale_check p ≡ result_and (validate_positive p.d OriginScale) (Ok p)
scale_check p = rw (not_above p.d +0 zero_finite) (positive p.d OriginScale (Ok p))

origin_check : (aspect : Aspect) (p : LambertAzimuthalEqualArea)
    → source_origin_check aspect p ≡ result_and (validate_origin aspect p.cos_beta0) (source_scale_check p)
unfolding validate_origin
origin_check Oblique p = fails (abs p.cos_beta0 ≺ POLAR_EPSILON) OriginNearPole (source_scale_check p)
origin_check NorthPolar p = refl
origin_check SouthPolar p = refl

pub checked_as_in_source : (p : LambertAzimuthalEqualArea) → source_checked p ≡ checked p
unfolding checked fault
checked_as_in_source p =
    let o = validate_origin p.aspect p.cos_beta0 in
    let d = validate_positive p.d OriginScale in
    rw (not_above_first p.q_p +0 zero_finite, origin_check p.aspect p, scale_check p)
    (positive p.q_p PolarQ (result_and o (result_and d (Ok p)))
    ∙ simp and_and)

pub built_as_in_source : (ellipsoid : Ellipsoid) (s : Settings) (spherical : Bool)
    → source_built ellipsoid s.lon0 s.lat0 s.false_easting s.false_northing spherical ≡ built ellipsoid s spherical
unfolding built derived
built_as_in_source ellipsoid s spherical =
    let p = derived ellipsoid s spherical in
    rw (checked_as_in_source p) (origin_as_in_source s.lon0 s.lat0 s.false_easting s.false_northing (checked p))

-- ---- the first inverse

-- it asks the source's centre rule and nothing else
pub held_as_in_source : (rho quotient : Float) (centre there : Answer) → cond (rho ≺ RHO_EPSILON) centre there ≡ judged (judge Held rho quotient) centre there
unfolding judge judged beyond_edge
held_as_in_source rho quotient centre there = go (rho ≺ RHO_EPSILON)
  where
    go : (b : Bool) → cond b centre there ≡ judged (cond b AtCentre OnMap) centre there
    go true = refl
    go false = refl

-- about a pole
pub polar_place_as_in_source : (p : LambertAzimuthalEqualArea) (rho q_over_q_p d_lon : Float)
    → source_polar_place p rho q_over_q_p d_lon ≡ polar_place Held p rho q_over_q_p d_lon
unfolding polar_place
polar_place_as_in_source p rho q_over_q_p d_lon = go (rho ≺ RHO_EPSILON) ∙ held_as_in_source rho _ _ _
  where
    go : (b : Bool)
        → pair (cond b p.lon0 (p.lon0 ⊕ d_lon)) (geodetic_from_authalic (cond b p.lat0 (bounded_arcsine q_over_q_p)) p.e2)
        ≡ cond b (Ok (p.lon0, geodetic_from_authalic p.lat0 p.e2))
        (Ok (p.lon0 ⊕ d_lon, geodetic_from_authalic (bounded_arcsine q_over_q_p) p.e2))
    go true = refl
    go false = refl
