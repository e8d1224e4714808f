-- Albers Equal Area (Snyder, PP 1395, chapter 14; IOGP 7-2 method 9822), in the source's order of operations.
-- The source has the ellipsoid's formulas alone (specs/OnEllipsoid). Where e² is exactly 0 document 02 has Snyder's sphere (specs/OnSphere).
use Rattle.std.specs.Prelude.{cond, Float, Result, Ok, Err}
use Rattle.std.specs.Result.{result_and}
use Rattle.float.specs.Operators.{◌⊕◌, ◌⊖◌, ◌⊗◌, ◌⊘◌, ◌≺◌}
use Rattle.float.specs.Sign.{abs, signum}
use Rattle.root.specs.Root.{root}
use Rattle.trigonometry.specs.Trigonometry.{sine, cosine}
use Rattle.fixed.specs.Arctangent.{atan2}
use Rattle.ellipsoid.specs.Ellipsoid.{e2}
use Rattle.ellipsoid.specs.declared.Ellipsoid.{Ellipsoid}
use Rattle.refusals.specs.declared.Refusal.{Refusal}
use Rattle.refusals.specs.declared.Refusal.TheVariants.{ConeConstant}
use Rattle.projection.specs.Checks.{validate_settings, validate_projected}
use Rattle.projection.specs.Starts.{enter, entered}
use Rattle.projection.specs.Ends.{ensure_finite_xy, finish}
use Rattle.projection.specs.Answer.{Answer}
use Rattle.projection.specs.declared.Settings.{Settings}
use Rattle.albers_equal_area.specs.Parallels.{NO_CONE}
use Rattle.albers_equal_area.specs.OnEllipsoid.{q_func, ellipsoid_cone, lat_from_q}
use Rattle.albers_equal_area.specs.OnSphere.{is_sphere, sphere_q, sphere_cone, sphere_latitude}
use Rattle.albers_equal_area.specs.declared.Cone.{Cone}
use Rattle.albers_equal_area.specs.declared.AlbersEqualArea.{AlbersEqualArea}

-- ρ = a √(C - nq) / n (14-12, and 14-12a for ρ0; 14-3 and 14-3a on a sphere). The source takes the size of C - nq.
unfoldable pub parallel_radius : Float → Float → Float → Float → Float
parallel_radius a c n q = a ⊗ root (abs (c ⊖ n ⊗ q)) ⊘ n

-- ---- the constructor

-- n, C and the origin's q
unfoldable pub cone : Settings → Float → Float → Cone
cone s e e2 = cond (is_sphere e2) (sphere_cone s) (ellipsoid_cone s e e2)

unfoldable pub derived : Ellipsoid → Settings → AlbersEqualArea
derived ellipsoid s =
    let e2 = e2 ellipsoid in
    let e = root e2 in
    let found = cone s e e2 in
    record {
      a = ellipsoid.a;
      e = e;
      e2 = e2;
      lon0 = s.lon0;
      n = found.n;
      c = found.c;
      rho0 = parallel_radius ellipsoid.a found.c found.n found.q0;
      false_easting = s.false_easting;
      false_northing = s.false_northing;
    }

-- 15 where n is too small; a NaN passes
unfoldable pub checked : AlbersEqualArea → Result AlbersEqualArea Refusal
checked p = cond (abs p.n ≺ NO_CONE) (Err ConeConstant) (Ok p)

unfoldable pub new : Ellipsoid → Settings → Result AlbersEqualArea Refusal
new ellipsoid s = result_and (validate_settings s) (checked (derived ellipsoid s))

-- ---- forward

-- the q of a place
unfoldable pub q_of_latitude : AlbersEqualArea → Float → Float
q_of_latitude p lat = cond (is_sphere p.e2) (sphere_q lat) (q_func lat p.e p.e2)

-- θ = n (λ - λ0) (14-4), x = ρ sin θ (14-1), y = ρ0 - ρ cos θ (14-2)
unfoldable pub projected : AlbersEqualArea → Float → Float → Answer
projected p d_lon lat =
    let rho = parallel_radius p.a p.c p.n (q_of_latitude p lat) in
    let theta = p.n ⊗ d_lon in
    ensure_finite_xy (p.false_easting ⊕ rho ⊗ sine theta) (p.false_northing ⊕ p.rho0 ⊖ rho ⊗ cosine theta)

unfoldable pub forward : AlbersEqualArea → Float → Float → Answer
forward p lon lat = entered (λ d_lon. projected p d_lon lat) (enter lon lat p.lon0)

-- ---- inverse

-- the latitude of a q: on a sphere there is no round that could refuse
unfoldable pub latitude_of_q : AlbersEqualArea → Float → Result Float Refusal
latitude_of_q p q = cond (is_sphere p.e2) (Ok (sphere_latitude q)) (lat_from_q q p.e p.e2)

-- tan θ = x / (ρ0 - y) (14-11), with both signs turned where n is negative
unfoldable pub theta_of_offset : AlbersEqualArea → Float → Float → Float
theta_of_offset p dx dy = atan2 (dx ⊗ signum p.n) (dy ⊗ signum p.n)

-- ρ = √(x² + (ρ0 - y)²) (14-10), q = (C - ρ² n² / a²) / n (14-19; on a sphere twice the argument of 14-8's arcsine)
unfoldable pub q_of_offset : AlbersEqualArea → Float → Float → Float
q_of_offset p dx dy =
    let rho = root (dx ⊗ dx ⊕ dy ⊗ dy) in
    (p.c ⊖ rho ⊗ rho ⊗ p.n ⊗ p.n ⊘ (p.a ⊗ p.a)) ⊘ p.n

-- λ = λ0 + θ / n (14-9), 01's formula's longitude, once there is a latitude
unfoldable pub place : AlbersEqualArea → Float → Result Float Refusal → Answer
place p theta (Ok lat) = Ok (p.lon0 ⊕ theta ⊘ p.n, lat)
place p theta (Err r) = Err r

unfoldable pub formula : AlbersEqualArea → Float → Float → Answer
formula p x y =
    let dx = x ⊖ p.false_easting in
    let dy = p.rho0 ⊖ (y ⊖ p.false_northing) in
    result_and (validate_projected x y) (place p (theta_of_offset p dx dy) (latitude_of_q p (q_of_offset p dx dy)))

unfoldable pub inverse : AlbersEqualArea → Float → Float → Answer
inverse p x y = finish (formula p x y)
