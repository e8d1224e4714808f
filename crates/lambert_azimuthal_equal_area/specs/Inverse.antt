-- From the map to a place: the first inverse, which holds a click in the frame to the map's edge, and the second (document 02, Q-6), which refuses it.
use Rattle.std.specs.Prelude.{cond, Float, Ok, Err}
use Rattle.std.specs.Result.{result_and}
use Rattle.std.specs.Float.Ieee.{neg}
use Rattle.float.specs.Operators.{◌⊕◌, ◌⊖◌, ◌⊗◌, ◌⊘◌, ◌≺◌}
use Rattle.float.specs.Constants.{one, two}
use Rattle.float.specs.Sign.{abs}
use Rattle.float.specs.Limits.{clamp}
use Rattle.root.specs.Plane.{distance}
use Rattle.trigonometry.specs.Trigonometry.{sine, cosine}
use Rattle.fixed.specs.Arctangent.{arcsine, atan2}
use Rattle.refusals.specs.declared.Refusal.TheVariants.{OffTheMap}
use Rattle.authalic.specs.Authalic.{geodetic_from_authalic}
use Rattle.projection.specs.Checks.{validate_projected}
use Rattle.projection.specs.Ends.{finish}
use Rattle.projection.specs.MapEdge.{beyond_edge}
use Rattle.projection.specs.Answer.{Answer}
use Rattle.projection.specs.declared.Frame.{Frame}
use Rattle.lambert_azimuthal_equal_area.specs.LambertAzimuthalEqualArea.{RHO_EPSILON, EDGE}
use Rattle.lambert_azimuthal_equal_area.specs.declared.Aspect.{Aspect}
use Rattle.lambert_azimuthal_equal_area.specs.declared.Aspect.TheVariants.{Oblique, NorthPolar, SouthPolar}
use Rattle.lambert_azimuthal_equal_area.specs.declared.LambertAzimuthalEqualArea.{LambertAzimuthalEqualArea}
use Rattle.lambert_azimuthal_equal_area.specs.declared.inverse.Click.{Click}
use Rattle.lambert_azimuthal_equal_area.specs.declared.inverse.Click.TheVariants.{AtCentre, InFrame, OnMap}

-- ---- where a click lies

-- ρ of 24-28: on the sphere and about a pole it is `distance` of x and y (20-18), and here of x/D and D y
abbrev pub oblique_rho : LambertAzimuthalEqualArea → Float → Float → Float
oblique_rho p dx dy = distance (dx ⊘ p.d) (p.d ⊗ dy)

-- ρ/(2 R), the sine of half of c (24-16 on the sphere, 24-29 on the ellipsoid)
abbrev pub half_sine : Float → Float → Float
half_sine rho radius = rho ⊘ (two ⊗ radius)

-- q / q at the pole, the sine of β (24-32)
abbrev pub north_polar_quotient : LambertAzimuthalEqualArea → Float → Float
north_polar_quotient p rho = one ⊖ rho ⊗ rho ⊘ (p.a ⊗ p.a ⊗ p.q_p)

-- 24-32, its sign within the arcsine
abbrev pub south_polar_quotient : LambertAzimuthalEqualArea → Float → Float
south_polar_quotient p rho = rho ⊗ rho ⊘ (p.a ⊗ p.a ⊗ p.q_p) ⊖ one

-- The centre rule comes before the edge's. Snyder has the centre at ρ = 0; the source strictly below RHO_EPSILON. The edge is judged by the quotient of which
-- the formula takes the arcsine, before that holds it to [-1, 1].
unfoldable pub judge : Frame → Float → Float → Click
judge frame rho quotient = cond (rho ≺ RHO_EPSILON) AtCentre (cond (beyond_edge frame quotient EDGE) InFrame OnMap)

-- what a click gets, of the centre and of the place that the formula has for it
unfoldable pub judged : Click → Answer → Answer → Answer
judged AtCentre centre place = centre
judged InFrame centre place = Err OffTheMap
judged OnMap centre place = place

-- ---- the place

-- Arcsin with its argument held to [-1, 1], as the source has it: a click off the map, where it is not refused, is answered as one of its edge.
unfoldable pub bounded_arcsine : Float → Float
bounded_arcsine x = arcsine (clamp x (neg one) one)

-- c, of the sine of its half
unfoldable pub angular_distance : Float → Float
angular_distance half = two ⊗ bounded_arcsine half

-- S: 20-14 and 20-15, and the origin itself at the centre
unfoldable pub spherical_formula : Frame → LambertAzimuthalEqualArea → Float → Float → Answer
spherical_formula frame p dx dy =
    let rho = distance dx dy in
    let half = half_sine rho p.spherical_radius in
    let c = angular_distance half in
    let lat = bounded_arcsine (cosine c ⊗ p.sin_lat0 ⊕ dy ⊗ sine c ⊗ p.cos_lat0 ⊘ rho) in
    let d_lon = atan2 (dx ⊗ sine c) (rho ⊗ p.cos_lat0 ⊗ cosine c ⊖ dy ⊗ p.sin_lat0 ⊗ sine c) in
    judged (judge frame rho half) (Ok (p.lon0, p.lat0)) (Ok (p.lon0 ⊕ d_lon, lat))

-- L about a pole, from q / q at the pole, whose size is judged, and λ - λ0. At the centre the source takes lat0 for β; Snyder has φ1 for φ.
unfoldable pub polar_place : Frame → LambertAzimuthalEqualArea → Float → Float → Float → Answer
polar_place frame p rho q_over_q_p d_lon =
    judged (judge frame rho (abs q_over_q_p)) (Ok (p.lon0, geodetic_from_authalic p.lat0 p.e2))
    (Ok (p.lon0 ⊕ d_lon, geodetic_from_authalic (bounded_arcsine q_over_q_p) p.e2))

-- 20-16
unfoldable pub north_polar_formula : Frame → LambertAzimuthalEqualArea → Float → Float → Answer
north_polar_formula frame p dx dy =
    let rho = distance dx dy in
    polar_place frame p rho (north_polar_quotient p rho) (atan2 dx (neg dy))

-- 20-17
unfoldable pub south_polar_formula : Frame → LambertAzimuthalEqualArea → Float → Float → Answer
south_polar_formula frame p dx dy =
    let rho = distance dx dy in
    polar_place frame p rho (south_polar_quotient p rho) (atan2 dx dy)

-- L elsewhere: 24-30 and 24-26. The centre is judged by its own ρ.
unfoldable pub oblique_formula : Frame → LambertAzimuthalEqualArea → Float → Float → Answer
oblique_formula frame p dx dy =
    let rho = oblique_rho p dx dy in
    let half = half_sine rho p.rq in
    let c = angular_distance half in
    let beta = bounded_arcsine (cosine c ⊗ p.sin_beta0 ⊕ p.d ⊗ dy ⊗ sine c ⊗ p.cos_beta0 ⊘ rho) in
    let d_lon = atan2 (dx ⊗ sine c) (p.d ⊗ rho ⊗ p.cos_beta0 ⊗ cosine c ⊖ p.d ⊗ p.d ⊗ dy ⊗ p.sin_beta0 ⊗ sine c) in
    judged (judge frame rho half) (Ok (p.lon0, p.lat0)) (Ok (p.lon0 ⊕ d_lon, geodetic_from_authalic beta p.e2))

-- L by its aspect
unfoldable pub ellipsoidal_formula : Aspect → Frame → LambertAzimuthalEqualArea → Float → Float → Answer
ellipsoidal_formula NorthPolar = north_polar_formula
ellipsoidal_formula SouthPolar = south_polar_formula
ellipsoidal_formula Oblique = oblique_formula

unfoldable pub place : Frame → LambertAzimuthalEqualArea → Float → Float → Answer
place frame p dx dy = cond p.spherical (spherical_formula frame p dx dy) (ellipsoidal_formula p.aspect frame p dx dy)

-- 20, then 30, or the place with 01's "formula's longitude"
unfoldable pub formula : Frame → LambertAzimuthalEqualArea → Float → Float → Answer
formula frame p x y = result_and (validate_projected x y) (place frame p (x ⊖ p.false_easting) (y ⊖ p.false_northing))

unfoldable pub inverse : Frame → LambertAzimuthalEqualArea → Float → Float → Answer
inverse frame p x y = finish (formula frame p x y)
