-- Albers on a sphere (Snyder, PP 1395, 14-3 to 14-11; document 02, Q-2). With q = 2 sin φ what is not here is the ellipsoid's own: ρ and ρ0 (14-3, 14-3a),
-- θ (14-4, 14-11), the ρ and the q of an offset (14-10, and 14-8 within its arcsine) and the longitude (14-9), all in specs/AlbersEqualArea.
use Rattle.std.specs.Prelude.{Bool, Float}
use Rattle.float.specs.Operators.{◌⊕◌, ◌⊗◌, ◌⊘◌, ◌≈◌}
use Rattle.float.specs.Constants.{+0, two}
use Rattle.trigonometry.specs.Trigonometry.{sine, cosine}
use Rattle.fixed.specs.Arctangent.{arcsine}
use Rattle.projection.specs.declared.Settings.{Settings}
use Rattle.albers_equal_area.specs.Parallels.{cone_constant}
use Rattle.albers_equal_area.specs.declared.Cone.{Cone}

-- e² is exactly 0, of either sign; the least other e² is an ellipsoid's
unfoldable pub is_sphere : Float → Bool
is_sphere e2 = e2 ≈ +0

-- q = 2 sin φ
unfoldable pub sphere_q : Float → Float
sphere_q lat = two ⊗ sine lat

-- n = (sin φ1 + sin φ2) / 2 (14-6), C = cos² φ1 + 2 n sin φ1 (14-5)
unfoldable pub sphere_cone : Settings → Cone
sphere_cone s =
    let n = cone_constant s.lat1 s.lat2 ((sine s.lat1 ⊕ sine s.lat2) ⊘ two) in
    record { n = n; c = cosine s.lat1 ⊗ cosine s.lat1 ⊕ two ⊗ n ⊗ sine s.lat1; q0 = sphere_q s.lat0 }

-- φ = arcsin (q / 2) (14-8): no rounds, and no clamp, so that beyond 1 it is a NaN
unfoldable pub sphere_latitude : Float → Float
sphere_latitude q = arcsine (q ⊘ two)
