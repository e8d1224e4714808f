-- The Guam projection: Snyder pp. 197-198 and 200-201, IOGP 7-2 method 9831, in the source's order of operations.
-- It works in units of a, and takes the arc of the meridian from the shared series, not from Snyder 3-21.
use Rattle.std.specs.Prelude.{List, cond, ℕ, zero, suc, Float, Result, Ok, Err}
use Rattle.std.specs.Result.{result_and}
use Rattle.float.specs.Operators.{◌⊕◌, ◌⊖◌, ◌⊗◌, ◌⊘◌, ◌≈◌}
use Rattle.float.specs.Constants.{+0, one, half}
use Rattle.root.specs.Root.{root}
use Rattle.trigonometry.specs.Trigonometry.{sine, cosine, tangent}
use Rattle.ellipsoid.specs.Ellipsoid.{e2}
use Rattle.ellipsoid.specs.declared.Ellipsoid.{Ellipsoid}
use Rattle.refusals.specs.declared.Refusal.{Refusal}
use Rattle.refusals.specs.declared.Refusal.TheVariants.{Sphere}
use Rattle.meridian.specs.Meridian.{meridian_arc_coefficients, meridian_arc, inverse_meridian_arc}
use Rattle.projection.specs.Answer.{Answer}
use Rattle.projection.specs.Checks.{with_origin, validate_settings, validate_projected}
use Rattle.projection.specs.Starts.{enter, entered}
use Rattle.projection.specs.Ends.{ensure_finite_xy, finish}
use Rattle.projection.specs.declared.Settings.{Settings}
use Rattle.guam_projection.specs.declared.GuamProjection.{GuamProjection}
use Rattle.guam_projection.specs.declared.Round.{Round}
use Rattle.guam_projection.specs.declared.NewGuamProjection.{NewGuamProjection}

abbrev pub STEPS : ℕ
STEPS = 3

-- ---- the constructor

-- M₁ is the arc to the origin's latitude, over a
unfoldable pub derived : Ellipsoid → Settings → List Float → GuamProjection
derived ellipsoid settings en =
    let lat0 = settings.lat0 in
    record {
      a = ellipsoid.a;
      e2 = e2 ellipsoid;
      e = root (e2 ellipsoid);
      lon0 = settings.lon0;
      lat0 = lat0;
      false_easting = settings.false_easting;
      false_northing = settings.false_northing;
      m1 = meridian_arc lat0 (sine lat0) (cosine lat0) en;
    }

-- 11: the projection is defined only for ellipsoids
unfoldable pub checked : GuamProjection → Result GuamProjection Refusal
checked p = cond (p.e2 ≈ +0) (Err Sphere) (Ok p)

unfoldable pub built : Ellipsoid → Settings → List Float → Result GuamProjection Refusal
built ellipsoid settings en = result_and (validate_settings (with_origin settings.lon0 settings.lat0 settings.false_easting settings.false_northing)) (checked (derived ellipsoid settings en))

-- the meridian numbers stand beside what is built
unfoldable pub new : Ellipsoid → Settings → NewGuamProjection
new ellipsoid settings =
    let en = meridian_arc_coefficients (e2 ellipsoid) in
    record { built = built ellipsoid settings en; en = en }

-- ---- forward

-- With t = 1 / (1 - e² sin² φ)^½: x = λ cos φ t, y = M - M₁ + ½ λ² cos φ sin φ t. Snyder writes y's last term x² tan φ / (2 t).
unfoldable pub projected : GuamProjection → List Float → Float → Float → Answer
projected p en d_lon lat =
    let t = one ⊘ root (one ⊖ p.e2 ⊗ sine lat ⊗ sine lat) in
    let x = d_lon ⊗ cosine lat ⊗ t in
    let y = meridian_arc lat (sine lat) (cosine lat) en ⊖ p.m1 ⊕ half ⊗ d_lon ⊗ d_lon ⊗ cosine lat ⊗ sine lat ⊗ t in
    ensure_finite_xy (p.false_easting ⊕ p.a ⊗ x) (p.false_northing ⊕ p.a ⊗ y)

unfoldable pub forward : GuamProjection → List Float → Float → Float → Answer
forward p en lon lat = entered (λ d_lon. projected p en d_lon lat) (enter lon lat p.lon0)

-- ---- inverse

-- A round from the latitude φ: t = (1 - e² sin² φ)^½, and the latitude at the end of the arc M₁ + y - ½ x² tan φ t.
unfoldable pub round_from : GuamProjection → List Float → Float → Float → Float → Round
round_from p en ys x2 phi =
    let e_sin = p.e ⊗ sine phi in
    let t = root (one ⊖ e_sin ⊗ e_sin) in
    record { phi = inverse_meridian_arc (p.m1 ⊕ ys ⊖ x2 ⊗ tangent phi ⊗ t) en; t = t }

-- n rounds, each from the latitude that the one before it gave
unfoldable pub repeated : (Float → Round) → ℕ → Round → Round
repeated step zero last = last
repeated step (suc n) last = repeated step n (step last.phi)

-- three rounds from lat0
unfoldable pub rounds : GuamProjection → List Float → Float → Float → Round
rounds p en ys x2 = repeated (round_from p en ys x2) STEPS (record { phi = p.lat0; t = +0 })

-- λ = λ₀ + x t / cos φ. Snyder's t is of this φ; the source's is of the latitude before the last round.
unfoldable pub at_round : GuamProjection → Float → Round → Answer
at_round p xs last = Ok (p.lon0 ⊕ xs ⊗ last.t ⊘ cosine last.phi, last.phi)

-- the place, its longitude not normalised yet
unfoldable pub place : GuamProjection → List Float → Float → Float → Answer
place p en xs ys = at_round p xs (rounds p en ys (half ⊗ xs ⊗ xs))

unfoldable pub formula : GuamProjection → List Float → Float → Float → Answer
formula p en x y = result_and (validate_projected x y) (place p en ((x ⊖ p.false_easting) ⊘ p.a) ((y ⊖ p.false_northing) ⊘ p.a))

unfoldable pub inverse : GuamProjection → List Float → Float → Float → Answer
inverse p en x y = finish (formula p en x y)
