-- American Polyconic, EPSG method 9818, on the sphere (Snyder 18-1 to 18-10) and on the ellipsoid (18-12 to 18-22), in the source's order of operations. e² = 0 is a sphere.
use Rattle.std.specs.Prelude.{cond, List, Float, Result, Ok, Err}
use Rattle.std.specs.Result.{result_and}
use Rattle.std.specs.Float.Ieee.{neg}
use Rattle.float.specs.Operators.{◌⊕◌, ◌⊖◌, ◌⊗◌, ◌⊘◌, ◌≺◌, ◌≼◌, ◌≈◌}
use Rattle.float.specs.Constants.{+0, one}
use Rattle.float.specs.Sign.{abs}
use Rattle.trigonometry.specs.Trigonometry.{sine, cosine, tangent}
use Rattle.fixed.specs.Arctangent.{arcsine}
use Rattle.ellipsoid.specs.Ellipsoid.{e2}
use Rattle.ellipsoid.specs.declared.Ellipsoid.{Ellipsoid}
use Rattle.meridian.specs.Meridian.{meridian_arc_coefficients, meridian_arc}
use Rattle.refusals.specs.declared.Refusal.{Refusal}
use Rattle.projection.specs.Answer.{Answer}
use Rattle.projection.specs.Checks.{with_origin, validate_settings, validate_projected}
use Rattle.projection.specs.Starts.{enter, entered}
use Rattle.projection.specs.Ends.{ensure_finite_xy, finish}
use Rattle.projection.specs.declared.Settings.{Settings}
use Rattle.american_polyconic.specs.Tolerances.{EQUATOR_TOL}
use Rattle.american_polyconic.specs.Newton.{nu, latitude}
use Rattle.american_polyconic.specs.declared.AmericanPolyconic.{AmericanPolyconic}
use Rattle.american_polyconic.specs.declared.NewAmericanPolyconic.{NewAmericanPolyconic}

-- the meridian arc at lat0 over a; on a sphere lat0 negated
unfoldable pub origin_arc : Float → Float → List Float → Float
origin_arc e2 lat0 en = cond (e2 ≈ +0) (neg lat0) (meridian_arc lat0 (sine lat0) (cosine lat0) en)

unfoldable pub derived : Ellipsoid → Settings → List Float → AmericanPolyconic
unfolding origin_arc
derived ellipsoid settings en =
    record {
      a = ellipsoid.a;
      e2 = e2 ellipsoid;
      lon0 = settings.lon0;
      lat0 = settings.lat0;
      false_easting = settings.false_easting;
      false_northing = settings.false_northing;
      ml0 = origin_arc (e2 ellipsoid) settings.lat0 en;
    }

-- 6 to 10, or what is derived
unfoldable pub built : Ellipsoid → Settings → List Float → Result AmericanPolyconic Refusal
unfolding derived
built ellipsoid settings en = result_and (validate_settings (with_origin settings.lon0 settings.lat0 settings.false_easting settings.false_northing)) (Ok (derived ellipsoid settings en))

-- the meridian numbers stand beside what is built
unfoldable pub new : Ellipsoid → Settings → NewAmericanPolyconic
new ellipsoid settings =
    let en = meridian_arc_coefficients (e2 ellipsoid) in
    record { built = built ellipsoid settings en; en = en }

-- from units of a to the map
unfoldable pub scaled : AmericanPolyconic → Float → Float → Answer
scaled p x y = ensure_finite_xy (p.false_easting ⊕ p.a ⊗ x) (p.false_northing ⊕ p.a ⊗ y)

-- y = -φ0 (Snyder 18-1) on the equator, 18-2 to 18-4 off it
unfoldable pub sphere_forward : AmericanPolyconic → Float → Float → Answer
unfolding scaled
sphere_forward p d_lon lat =
    let cot = one ⊘ tangent lat in
    let e = d_lon ⊗ sine lat in
    cond (abs lat ≼ EQUATOR_TOL) (scaled p d_lon p.ml0) (scaled p (sine e ⊗ cot) (lat ⊖ p.lat0 ⊕ cot ⊗ (one ⊖ cosine e)))

-- N cot φ over a, the radius of the parallel's arc; the source has 0 where the cosine is as small as the equator's tolerance
unfoldable pub cone_radius : AmericanPolyconic → Float → Float → Float
cone_radius p sp cp = cond (EQUATOR_TOL ≺ abs cp) (cp ⊘ nu p.e2 sp ⊘ sp) +0

-- y = -M0 on the equator, Snyder 18-2, 18-12 and 18-13 off it
unfoldable pub ellipsoid_forward : AmericanPolyconic → List Float → Float → Float → Answer
unfolding scaled cone_radius
ellipsoid_forward p en d_lon lat =
    let ms = cone_radius p (sine lat) (cosine lat) in
    let e = d_lon ⊗ sine lat in
    let ml = meridian_arc lat (sine lat) (cosine lat) en in
    cond (abs lat ≼ EQUATOR_TOL) (scaled p d_lon (neg p.ml0)) (scaled p (ms ⊗ sine e) (ml ⊖ p.ml0 ⊕ ms ⊗ (one ⊖ cosine e)))

unfoldable pub projected : AmericanPolyconic → List Float → Float → Float → Answer
unfolding sphere_forward ellipsoid_forward
projected p en d_lon lat = cond (p.e2 ≈ +0) (sphere_forward p d_lon lat) (ellipsoid_forward p en d_lon lat)

unfoldable pub forward : AmericanPolyconic → List Float → Float → Float → Answer
unfolding projected
forward p en lon lat = entered (λ d_lon. projected p en d_lon lat) (enter lon lat p.lon0)

-- A: the northing over a from the equator (Snyder 18-7; 18-18)
unfoldable pub ordinate : AmericanPolyconic → Float → Float
ordinate p y = let dy = (y ⊖ p.false_northing) ⊘ p.a in cond (p.e2 ≈ +0) (p.lat0 ⊕ dy) (dy ⊕ p.ml0)

-- the sine of E (Snyder 18-10; 18-22 with 18-20)
unfoldable pub sin_e : AmericanPolyconic → Float → Float → Float → Float
sin_e p xs tp sp = cond (p.e2 ≈ +0) (xs ⊗ tp) (xs ⊗ tp ⊗ nu p.e2 sp)

-- E is the longitude from lon0 times sin φ (18-2)
unfoldable pub at_latitude : AmericanPolyconic → Float → Result Float Refusal → Answer
unfolding sin_e
at_latitude p xs (Ok phi) = Ok (p.lon0 ⊕ arcsine (sin_e p xs (tangent phi) (sine phi)) ⊘ sine phi, phi)
at_latitude p xs (Err r) = Err r

-- The place at the easting xs over a and at ys = A: on the equator Snyder 7-5 and 7-12, off it by the latitude, with B = xs² + A² (18-8, 18-19).
-- On the ellipsoid the source sums B in the other order: specs/AsInSource.
unfoldable pub place : AmericanPolyconic → List Float → Float → Float → Answer
unfolding at_latitude
place p en xs ys =
    cond (abs ys ≼ EQUATOR_TOL) (Ok (p.lon0 ⊕ xs, +0))
    (at_latitude p xs (latitude (record { e2 = p.e2; en = en; ys = ys; b = xs ⊗ xs ⊕ ys ⊗ ys })))

-- the place, its longitude not normalised yet
unfoldable pub formula : AmericanPolyconic → List Float → Float → Float → Answer
unfolding place ordinate
formula p en x y = result_and (validate_projected x y) (place p en ((x ⊖ p.false_easting) ⊘ p.a) (ordinate p y))

unfoldable pub inverse : AmericanPolyconic → List Float → Float → Float → Answer
unfolding formula
inverse p en x y = finish (formula p en x y)
