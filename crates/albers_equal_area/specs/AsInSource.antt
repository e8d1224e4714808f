-- The constructor, the forward and the inverse as the source writes them, for an ellipsoid and for a sphere: one check after the other, 15 before C and ρ0
-- are worked out, and one formula for every e². These were ours before document 02's sphere.
-- proofs/AsInSource: for every f64, NaN too, and every e² other than 0 they answer what ours do. proofs/SphereInSource: on a sphere they answer no point.
use Rattle.std.specs.Prelude.{cond, Float, Result, Ok, Err}
use Rattle.std.specs.Result.{result_and}
use Rattle.float.specs.Operators.{◌⊕◌, ◌⊖◌, ◌⊗◌, ◌⊘◌, ◌≺◌}
use Rattle.float.specs.Sign.{abs, signum}
use Rattle.root.specs.Root.{root}
use Rattle.trigonometry.specs.Trigonometry.{sine, cosine}
use Rattle.fixed.specs.Arctangent.{atan2}
use Rattle.ellipsoid.specs.Ellipsoid as ellipsoids
use Rattle.ellipsoid.specs.declared.Ellipsoid.{Ellipsoid}
use Rattle.refusals.specs.declared.Refusal.{Refusal}
use Rattle.refusals.specs.declared.Refusal.TheVariants.{FalseEasting, FalseNorthing, ConeConstant}
use Rattle.projection.specs.Checks.{validate_angle, validate_latitude_param, validate_offset, validate_lon_lat, validate_projected}
use Rattle.projection.specs.Longitude.{normalize_longitude}
use Rattle.projection.specs.Ends.{ensure_finite_xy, ensure_finite_lon_lat}
use Rattle.projection.specs.Answer.{Answer}
use Rattle.projection.specs.declared.Settings.{Settings}
use Rattle.albers_equal_area.specs.Parallels.{ONE_PARALLEL, NO_CONE}
use Rattle.albers_equal_area.specs.OnEllipsoid.{m_func, q_func, lat_from_q}
use Rattle.albers_equal_area.specs.declared.AlbersEqualArea.{AlbersEqualArea}

abbrev pub source_n : Ellipsoid → Float → Float → Float
source_n ellipsoid lat1 lat2 =
    let e2 = ellipsoids.e2 ellipsoid in
    let e = root e2 in
    let m1 = m_func lat1 e2 in
    let m2 = m_func lat2 e2 in
    let q1 = q_func lat1 e e2 in
    let q2 = q_func lat2 e e2 in
    cond (abs (lat1 ⊖ lat2) ≺ ONE_PARALLEL) (sine lat1) ((m1 ⊗ m1 ⊖ m2 ⊗ m2) ⊘ (q2 ⊖ q1))

abbrev pub source_derived : Ellipsoid → Settings → AlbersEqualArea
source_derived ellipsoid s =
    let e2 = ellipsoids.e2 ellipsoid in
    let e = root e2 in
    let m1 = m_func s.lat1 e2 in
    let n = source_n ellipsoid s.lat1 s.lat2 in
    let c = m1 ⊗ m1 ⊕ n ⊗ q_func s.lat1 e e2 in
    let rho0 = ellipsoid.a ⊗ root (abs (c ⊖ n ⊗ q_func s.lat0 e e2)) ⊘ n in
    record { a = ellipsoid.a; e = e; e2 = e2; lon0 = s.lon0; n = n; c = c; rho0 = rho0; false_easting = s.false_easting; false_northing = s.false_northing }

abbrev pub source_checked : Ellipsoid → Settings → Result AlbersEqualArea Refusal
source_checked ellipsoid s = cond (abs (source_n ellipsoid s.lat1 s.lat2) ≺ NO_CONE) (Err ConeConstant) (Ok (source_derived ellipsoid s))

-- a `result_and` is the source's `?`
abbrev pub source_new : Ellipsoid → Settings → Result AlbersEqualArea Refusal
source_new ellipsoid s =
    result_and (validate_angle s.lon0)
    (result_and (validate_latitude_param s.lat0)
    (result_and (validate_latitude_param s.lat1)
    (result_and (validate_latitude_param s.lat2)
    (result_and (validate_offset s.false_easting FalseEasting)
    (result_and (validate_offset s.false_northing FalseNorthing) (source_checked ellipsoid s))))))

abbrev pub source_projected : AlbersEqualArea → Float → Float → Answer
source_projected p lon lat =
    let q = q_func lat p.e p.e2 in
    let rho = p.a ⊗ root (abs (p.c ⊖ p.n ⊗ q)) ⊘ p.n in
    let theta = p.n ⊗ normalize_longitude (lon ⊖ p.lon0) in
    ensure_finite_xy (p.false_easting ⊕ rho ⊗ sine theta) (p.false_northing ⊕ p.rho0 ⊖ rho ⊗ cosine theta)

abbrev pub source_forward : AlbersEqualArea → Float → Float → Answer
source_forward p lon lat = result_and (validate_lon_lat lon lat) (source_projected p lon lat)

-- the end of the inverse, once `lat_from_q` has answered
unfoldable pub source_ended : Float → Result Float Refusal → Answer
source_ended lon (Ok lat) = ensure_finite_lon_lat lon lat
source_ended lon (Err r) = Err r

abbrev pub source_inverse : AlbersEqualArea → Float → Float → Answer
source_inverse p x y =
    let dx = x ⊖ p.false_easting in
    let dy = p.rho0 ⊖ (y ⊖ p.false_northing) in
    let rho = root (dx ⊗ dx ⊕ dy ⊗ dy) in
    let theta = atan2 (dx ⊗ signum p.n) (dy ⊗ signum p.n) in
    let q = (p.c ⊖ rho ⊗ rho ⊗ p.n ⊗ p.n ⊘ (p.a ⊗ p.a)) ⊘ p.n in
    result_and (validate_projected x y) (source_ended (p.lon0 ⊕ theta ⊘ p.n) (lat_from_q q p.e p.e2))
