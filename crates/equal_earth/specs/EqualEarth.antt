-- Equal Earth (Šavrič, Patterson and Jenny, 2018; IOGP 7-2 method 1078), in the source's order of operations.
-- The source writes ψ for the parametric latitude that both papers call θ. Their equations are named here by what they give, not by a number.
use Rattle.std.specs.Prelude.{◌≡◌, refl, [], ◌∷◌, cond, ℕ, ◌^◌, Float, Result, Ok, Err}
use Rattle.std.specs.Result.{result_and}
use Rattle.std.specs.Float.Ieee.{neg, of_bits, round, add, mul, div}
use Rattle.float.specs.Operators.{◌⊕◌, ◌⊖◌, ◌⊗◌, ◌⊘◌, ◌≈◌, f64}
use Rattle.float.specs.Constants.{+0, half, one, two, three, PI, FRAC_PI_2, ratio}
use Rattle.float.specs.Sign.{abs}
use Rattle.float.specs.Limits.{clamp}
use Rattle.root.specs.Root.{root}
use Rattle.trigonometry.specs.Trigonometry.{sine, cosine}
use Rattle.fixed.specs.Arctangent.{arcsine}
use Rattle.ellipsoid.specs.Ellipsoid.{e2}
use Rattle.ellipsoid.specs.declared.Ellipsoid.{Ellipsoid}
use Rattle.refusals.specs.declared.Refusal.{Refusal}
use Rattle.refusals.specs.declared.Refusal.TheVariants.{OffTheMap}
use Rattle.authalic.specs.Authalic.{authalic_q, geodetic_from_authalic}
use Rattle.projection.specs.Checks.{without_origin, validate_settings, validate_projected}
use Rattle.projection.specs.Starts.{enter, entered}
use Rattle.projection.specs.Iteration.{converge}
use Rattle.projection.specs.Ends.{ensure_finite_xy, finish}
use Rattle.projection.specs.MapEdge.{EDGE_EPSILON, beyond_edge}
use Rattle.projection.specs.Answer.{Answer}
use Rattle.projection.specs.declared.Frame.{Frame}
use Rattle.projection.specs.declared.Settings.{Settings}
use Rattle.equal_earth.specs.declared.EqualEarth.{EqualEarth}

-- the paper's polynomial: y = A1 ψ + A2 ψ³ + A3 ψ⁷ + A4 ψ⁹ on the unit sphere
abbrev pub A1 : Float
A1 = f64 0x3ff571b8aa00192a

abbrev pub A2 : Float
A2 = f64 0xbfb4c35ce1826677

abbrev pub A3 : Float
A3 = f64 0x3f4d4306e5cd4ed3

abbrev pub A4 : Float
A4 = f64 0x3f6f18c9fb6134ce

abbrev c7 : Float
c7 = f64 0x401c000000000000

abbrev c9 : Float
c9 = f64 0x4022000000000000

-- the sine of the pole's ψ
abbrev pub M : Float
M = f64 0x3febb67ae8584caa

-- the northing of the pole on the unit sphere
abbrev pub MAX_Y : Float
MAX_Y = f64 0x3ff513eaf8f8ca2b

-- 02's limits, each summed once: beyond the map's edge the northing on the unit sphere, or the longitude from the origin, is above them in size
abbrev pub EDGE_Y : Float
EDGE_Y = f64 0x3ff513eaf8f8dbc3

abbrev pub EDGE_LON : Float
EDGE_LON = f64 0x400921fb544435e4

abbrev pub TOLERANCE : Float
TOLERANCE = f64 0x3da5fd7fe1796495

abbrev pub STEPS : ℕ
STEPS = 15

-- what the constants stand for, and that the authalic radius of the unit sphere is 1
pub constants :
    (A1 ∷ A2 ∷ A3 ∷ A4 ∷ c7 ∷ c9 ∷ M ∷ MAX_Y ∷ EDGE_Y ∷ EDGE_LON ∷ TOLERANCE ∷ one ∷ [])
    ≡ (ratio 1340264 (10 ^ 6) ∷ neg (ratio 81106 (10 ^ 6)) ∷ ratio 893 (10 ^ 6) ∷ ratio 3796 (10 ^ 6) ∷ ratio 7 1 ∷ ratio 9 1 ∷ root three ⊘ two ∷ ratio 13173627591574 (10 ^ 13) ∷ MAX_Y ⊕ EDGE_EPSILON ∷ PI ⊕ EDGE_EPSILON ∷ ratio 1 (10 ^ 11) ∷ root (half ⊗ two) ∷ [])
unfolding of_bits round neg add mul div root
constants = refl

-- dy/dψ, the derivative of the paper's polynomial, by ψ² and ψ⁶
unfoldable pub y_derivative : Float → Float → Float
y_derivative psi2 psi6 = A1 ⊕ three ⊗ A2 ⊗ psi2 ⊕ psi6 ⊗ (c7 ⊗ A3 ⊕ c9 ⊗ A4 ⊗ psi2)

-- y/ψ, the paper's polynomial over ψ, by ψ² and ψ⁶
unfoldable pub y_over_psi : Float → Float → Float
y_over_psi psi2 psi6 = A1 ⊕ A2 ⊗ psi2 ⊕ psi6 ⊗ (A3 ⊕ A4 ⊗ psi2)

-- ---- the constructor

-- the authalic q of the pole (Snyder 3-12), 2 on a sphere
unfoldable pub polar_q : Float → Float
polar_q e2 = cond (e2 ≈ +0) two (authalic_q FRAC_PI_2 e2)

-- rqda is the authalic radius over a, root (q_p / 2) (Snyder 3-13). The source has 1 on a sphere, which is the same: specs/AsInSource.
unfoldable pub derived : Ellipsoid → Settings → EqualEarth
derived ellipsoid s =
    let q_p = polar_q (e2 ellipsoid) in
    record { a = ellipsoid.a; e2 = e2 ellipsoid; lon0 = s.lon0; false_easting = s.false_easting; false_northing = s.false_northing; q_p = q_p; rqda = root (half ⊗ q_p) }

unfoldable pub new : Ellipsoid → Settings → Result EqualEarth Refusal
new ellipsoid s = result_and (validate_settings (without_origin s.lon0 s.false_easting s.false_northing)) (Ok (derived ellipsoid s))

-- ---- forward

-- the sine of the authalic latitude β: q / q_p (Snyder 3-11), held to [-1, 1], since rounding may bring it past
unfoldable pub sin_beta : EqualEarth → Float → Float
sin_beta p lat = cond (p.e2 ≈ +0) (sine lat) (clamp (authalic_q lat p.e2 ⊘ p.q_p) (neg one) one)

-- the paper's forward equations with IOGP's Rq: sin ψ = (√3 / 2) sin β, E = FE + Rq λ cos ψ / (√3 / 2 dy/dψ), N = FN + Rq y
unfoldable pub projected : EqualEarth → Float → Float → Answer
projected p d_lon lat =
    let psi = arcsine (M ⊗ sin_beta p lat) in
    let psi2 = psi ⊗ psi in
    let psi6 = psi2 ⊗ psi2 ⊗ psi2 in
    let scale = p.a ⊗ p.rqda in
    ensure_finite_xy (p.false_easting ⊕ scale ⊗ d_lon ⊗ cosine psi ⊘ (M ⊗ y_derivative psi2 psi6))
    (p.false_northing ⊕ scale ⊗ psi ⊗ y_over_psi psi2 psi6)

unfoldable pub forward : EqualEarth → Float → Float → Answer
forward p lon lat = entered (λ d_lon. projected p d_lon lat) (enter lon lat p.lon0)

-- ---- inverse

-- one round of Newton's method for y(ψ) = ys, from yc
unfoldable pub newton : Float → Float → Float
newton ys yc =
    let y2 = yc ⊗ yc in
    let y6 = y2 ⊗ y2 ⊗ y2 in
    yc ⊖ (yc ⊗ y_over_psi y2 y6 ⊖ ys) ⊘ y_derivative y2 y6

unfoldable pub psi_of_northing : Float → Result Float Refusal
psi_of_northing ys = converge (newton ys) ys STEPS TOLERANCE

-- λ - λ0 = (√3 / 2) x dy/dψ / cos ψ on the unit sphere
unfoldable pub longitude_from_origin : Float → Float → Float
longitude_from_origin xs psi =
    let psi2 = psi ⊗ psi in
    let psi6 = psi2 ⊗ psi2 ⊗ psi2 in
    M ⊗ xs ⊗ y_derivative psi2 psi6 ⊘ cosine psi

-- sin β = sin ψ / (√3 / 2), held to [-1, 1], since rounding may bring it past. On a sphere the series (Snyder 3-18) leaves β as it is: specs/AsInSource.
unfoldable pub latitude : EqualEarth → Float → Float
latitude p psi = geodetic_from_authalic (arcsine (clamp (sine psi ⊘ M) (neg one) one)) p.e2

-- Once the rounds have ended: 30 (document 02, Q-6), judged before λ0 is added, or the place with 01's "formula's longitude".
unfoldable pub place : Frame → EqualEarth → Float → Result Float Refusal → Answer
place frame p xs (Ok psi) =
    let d_lon = longitude_from_origin xs psi in
    cond (beyond_edge frame (abs d_lon) EDGE_LON) (Err OffTheMap) (Ok (p.lon0 ⊕ d_lon, latitude p psi))
place frame p xs (Err r) = Err r

-- A scaled northing off the map is refused by 30, or held to the map's edge. The papers have no such rule.
unfoldable pub scaled_place : Frame → EqualEarth → Float → Float → Answer
scaled_place frame p xs ys =
    cond (beyond_edge frame (abs ys) EDGE_Y) (Err OffTheMap) (place frame p xs (psi_of_northing (clamp ys (neg MAX_Y) MAX_Y)))

unfoldable pub formula : Frame → EqualEarth → Float → Float → Answer
formula frame p x y =
    let scale = p.a ⊗ p.rqda in
    result_and (validate_projected x y) (scaled_place frame p ((x ⊖ p.false_easting) ⊘ scale) ((y ⊖ p.false_northing) ⊘ scale))

-- the first inverse, which answers a click in the frame, by the map's edge or its other side, and the second, which refuses it
unfoldable pub inverse : Frame → EqualEarth → Float → Float → Answer
inverse frame p x y = finish (formula frame p x y)
