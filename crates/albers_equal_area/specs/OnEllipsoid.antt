-- Albers on an ellipsoid (Snyder, PP 1395, 3-12, 3-16 and 14-13 to 14-15), in the source's order of operations.
-- On a sphere e is 0, and q would be a NaN: specs/OnSphere.
use Rattle.std.specs.Prelude.{◌≡◌, refl, [], ◌∷◌, ℕ, ◌^◌, Float, Result}
use Rattle.std.specs.Float.Ieee.{of_bits, round}
use Rattle.float.specs.Operators.{◌⊕◌, ◌⊖◌, ◌⊗◌, ◌⊘◌, f64}
use Rattle.float.specs.Constants.{one, two, ratio}
use Rattle.root.specs.Root.{root}
use Rattle.trigonometry.specs.Trigonometry.{sine, cosine}
use Rattle.fixed.specs.Arctangent.{arcsine}
use Rattle.fixed.specs.Logarithm.{ln}
use Rattle.refusals.specs.declared.Refusal.{Refusal}
use Rattle.projection.specs.Iteration.{converge}
use Rattle.projection.specs.declared.Settings.{Settings}
use Rattle.albers_equal_area.specs.Parallels.{cone_constant}
use Rattle.albers_equal_area.specs.declared.Cone.{Cone}

-- m = cos φ / √(1 - e² sin² φ) (14-15)
unfoldable pub m_func : Float → Float → Float
m_func lat e2 = cosine lat ⊘ root (one ⊖ e2 ⊗ sine lat ⊗ sine lat)

-- q (3-12). The shared authalic_q is another function: it takes a tiny e² for a sphere's.
unfoldable pub q_func : Float → Float → Float → Float
q_func lat e e2 =
    let sin_lat = sine lat in
    let e_sin = e ⊗ sin_lat in
    (one ⊖ e2) ⊗ (sin_lat ⊘ (one ⊖ e2 ⊗ sin_lat ⊗ sin_lat) ⊖ one ⊘ (two ⊗ e) ⊗ ln ((one ⊖ e_sin) ⊘ (one ⊕ e_sin)))

-- n = (m1² - m2²) / (q2 - q1) (14-14), C = m1² + n q1 (14-13)
unfoldable pub ellipsoid_cone : Settings → Float → Float → Cone
ellipsoid_cone s e e2 =
    let m1 = m_func s.lat1 e2 in
    let m2 = m_func s.lat2 e2 in
    let q1 = q_func s.lat1 e e2 in
    let n = cone_constant s.lat1 s.lat2 ((m1 ⊗ m1 ⊖ m2 ⊗ m2) ⊘ (q_func s.lat2 e e2 ⊖ q1)) in
    record { n = n; c = m1 ⊗ m1 ⊕ n ⊗ q1; q0 = q_func s.lat0 e e2 }

abbrev pub TOLERANCE : Float
TOLERANCE = f64 0x3d06849b86a12b9b

abbrev pub STEPS : ℕ
STEPS = 15

pub constants : (TOLERANCE ∷ []) ≡ (ratio 1 (10 ^ 14) ∷ [])
unfolding of_bits round
constants = refl

-- one round for the latitude of an authalic q, from lat (3-16)
unfoldable pub latitude_round : Float → Float → Float → Float → Float
latitude_round q e e2 lat =
    let sin_lat = sine lat in
    let e_sin = e ⊗ sin_lat in
    let one_minus_e2sin2 = one ⊖ e2 ⊗ sin_lat ⊗ sin_lat in
    lat ⊕ one_minus_e2sin2 ⊗ one_minus_e2sin2 ⊘ (two ⊗ cosine lat)
    ⊗ (q ⊘ (one ⊖ e2) ⊖ sin_lat ⊘ one_minus_e2sin2 ⊕ one ⊘ (two ⊗ e) ⊗ ln ((one ⊖ e_sin) ⊘ (one ⊕ e_sin)))

-- The rounds start from arcsin (q / 2), as Snyder's do. The source has no rule like his for the q of a pole.
unfoldable pub lat_from_q : Float → Float → Float → Result Float Refusal
lat_from_q q e e2 = converge (latitude_round q e e2) (arcsine (q ⊘ two)) STEPS TOLERANCE
