-- Lambert Azimuthal Equal Area (Snyder chapter 24; IOGP method 9820, and 1027 for S): its settings, the numbers made of them, and when they are refused.
use Rattle.std.specs.Prelude.{◌≡◌, refl, Bool, true, false, cond, ◌&&◌, [], ◌∷◌, ◌^◌, Float, Result, Ok, Err}
use Rattle.std.specs.Result.{result_and}
use Rattle.std.specs.Float.Ieee.{of_bits, round, add}
use Rattle.std.specs.Float.Ieee.Scale.{finite}
use Rattle.float.specs.Operators.{◌⊕◌, ◌⊖◌, ◌⊗◌, ◌⊘◌, ◌≺◌, f64}
use Rattle.float.specs.Constants.{+0, one, two, FRAC_PI_2, ratio}
use Rattle.float.specs.Sign.{abs}
use Rattle.root.specs.Root.{root}
use Rattle.trigonometry.specs.Trigonometry.{sine, cosine}
use Rattle.ellipsoid.specs.Ellipsoid as Ellipsoids
use Rattle.ellipsoid.specs.declared.Ellipsoid.{Ellipsoid}
use Rattle.refusals.specs.declared.Refusal.{Refusal}
use Rattle.refusals.specs.declared.Refusal.TheVariants.{PolarQ, OriginNearPole, OriginScale}
use Rattle.authalic.specs.Authalic.{authalic_q, authalic_latitude}
use Rattle.projection.specs.Checks.{Check, passed, with_origin, validate_settings}
use Rattle.projection.specs.MapEdge.{EDGE_EPSILON}
use Rattle.projection.specs.declared.Settings.{Settings}
use Rattle.lambert_azimuthal_equal_area.specs.declared.Aspect.{Aspect}
use Rattle.lambert_azimuthal_equal_area.specs.declared.Aspect.TheVariants.{Oblique, NorthPolar, SouthPolar}
use Rattle.lambert_azimuthal_equal_area.specs.declared.LambertAzimuthalEqualArea.{LambertAzimuthalEqualArea}

-- a distance from a pole in radians, and the size of a cosine
abbrev pub POLAR_EPSILON : Float
POLAR_EPSILON = f64 0x3d719799812dea11

-- a distance from the centre in metres
abbrev pub RHO_EPSILON : Float
RHO_EPSILON = f64 0x3e112e0be826d695

-- 02's 1 + 1e-12, summed once: beyond the map's edge what the arcsine takes is above it
abbrev pub EDGE : Float
EDGE = f64 0x3ff0000000001198

pub constants : (POLAR_EPSILON ∷ RHO_EPSILON ∷ EDGE ∷ []) ≡ (ratio 1 (10 ^ 12) ∷ ratio 1 (10 ^ 9) ∷ one ⊕ EDGE_EPSILON ∷ [])
unfolding of_bits round add
constants = refl

-- polar strictly within POLAR_EPSILON of a pole
unfoldable pub aspect_at : Float → Aspect
aspect_at lat0 =
    cond (abs (lat0 ⊖ FRAC_PI_2) ≺ POLAR_EPSILON) NorthPolar
    (cond (abs (lat0 ⊕ FRAC_PI_2) ≺ POLAR_EPSILON) SouthPolar Oblique)

-- D of Snyder 24-20 with m of 14-15. With the scale D to the east and 1/D to the north the map is conformal at its origin. About a pole D is 1.
unfoldable pub scale : Aspect → Float → Float → Float → Float → Float → Float → Float
scale Oblique a e2 sin_lat0 cos_lat0 rq cos_beta0 = a ⊗ cos_lat0 ⊘ (root (one ⊖ e2 ⊗ sin_lat0 ⊗ sin_lat0) ⊗ rq ⊗ cos_beta0)
scale NorthPolar a e2 sin_lat0 cos_lat0 rq cos_beta0 = one
scale SouthPolar a e2 sin_lat0 cos_lat0 rq cos_beta0 = one

-- The settings with the numbers made of them: q at the pole (3-12), the radius Rq of the sphere with the ellipsoid's area (3-13), which is S's radius too,
-- and the authalic latitude β0 of the origin (3-11).
unfoldable pub derived : Ellipsoid → Settings → Bool → LambertAzimuthalEqualArea
derived ellipsoid settings spherical =
    let a = ellipsoid.a in
    let e2 = Ellipsoids.e2 ellipsoid in
    let lat0 = settings.lat0 in
    let q_p = authalic_q FRAC_PI_2 e2 in
    let rq = a ⊗ root (q_p ⊘ two) in
    let beta0 = authalic_latitude (authalic_q lat0 e2) q_p in
    let aspect = aspect_at lat0 in
    record {
      a = a;
      e2 = e2;
      spherical = spherical;
      spherical_radius = rq;
      lon0 = settings.lon0;
      lat0 = lat0;
      q_p = q_p;
      rq = rq;
      sin_lat0 = sine lat0;
      cos_lat0 = cosine lat0;
      sin_beta0 = sine beta0;
      cos_beta0 = cosine beta0;
      d = scale aspect a e2 (sine lat0) (cosine lat0) rq (cosine beta0);
      false_easting = settings.false_easting;
      false_northing = settings.false_northing;
      aspect = aspect;
    }

-- passes where the value is finite and above 0
unfoldable pub validate_positive : Float → Refusal → Check
validate_positive value refusal = cond (finite value && +0 ≺ value) passed (Err refusal)

-- 13 if the origin is not polar and its β0 is too near a pole
unfoldable pub validate_origin : Aspect → Float → Check
validate_origin Oblique cos_beta0 = cond (abs cos_beta0 ≺ POLAR_EPSILON) (Err OriginNearPole) passed
validate_origin NorthPolar cos_beta0 = passed
validate_origin SouthPolar cos_beta0 = passed

-- what is wrong with the numbers made of the settings: 12, 13 or 14
unfoldable pub fault : LambertAzimuthalEqualArea → Check
fault p =
    result_and (validate_positive p.q_p PolarQ)
    (result_and (validate_origin p.aspect p.cos_beta0) (validate_positive p.d OriginScale))

unfoldable pub checked : LambertAzimuthalEqualArea → Result LambertAzimuthalEqualArea Refusal
checked p = result_and (fault p) (Ok p)

-- 6 to 10, then 12 to 14, or the projection. specs/AsInSource has the source's words.
unfoldable pub built : Ellipsoid → Settings → Bool → Result LambertAzimuthalEqualArea Refusal
built ellipsoid settings spherical = result_and (validate_settings (with_origin settings.lon0 settings.lat0 settings.false_easting settings.false_northing)) (checked (derived ellipsoid settings spherical))

unfoldable pub new : Ellipsoid → Settings → Result LambertAzimuthalEqualArea Refusal
new ellipsoid settings = built ellipsoid settings false

-- S: on the sphere of radius Rq, about lat0 itself
unfoldable pub new_spherical : Ellipsoid → Settings → Result LambertAzimuthalEqualArea Refusal
new_spherical ellipsoid settings = built ellipsoid settings true
