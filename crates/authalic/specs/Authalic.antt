-- The authalic latitude β, whose sphere has the ellipsoid's area: Snyder's q (3-12), β (3-11) and the series back (3-18).
use Rattle.std.specs.Prelude.{◌≡◌, refl, [], ◌∷◌, Bool, cond, ◌^◌, Float}
use Rattle.std.specs.Float.Ieee.{neg, of_bits, round}
use Rattle.float.specs.Operators.{◌⊕◌, ◌⊖◌, ◌⊗◌, ◌⊘◌, ◌≺◌, f64}
use Rattle.float.specs.Constants.{one, two, three, four, ratio}
use Rattle.float.specs.Sign.{abs}
use Rattle.float.specs.Limits.{clamp}
use Rattle.root.specs.Root.{root}
use Rattle.trigonometry.specs.Trigonometry.{sine}
use Rattle.fixed.specs.Arctangent.{arcsine}
use Rattle.fixed.specs.Logarithm.{ln}

-- e² below this in size counts as a sphere's
abbrev pub ECCENTRICITY_EPSILON : Float
ECCENTRICITY_EPSILON = f64 0x3cd203af9ee75616

abbrev c6 : Float
c6 = f64 0x4018000000000000

abbrev c23 : Float
c23 = f64 0x4037000000000000

abbrev c31 : Float
c31 = f64 0x403f000000000000

abbrev c180 : Float
c180 = f64 0x4066800000000000

abbrev c251 : Float
c251 = f64 0x406f600000000000

abbrev c360 : Float
c360 = f64 0x4076800000000000

abbrev c517 : Float
c517 = f64 0x4080280000000000

abbrev c761 : Float
c761 = f64 0x4087c80000000000

abbrev c3780 : Float
c3780 = f64 0x40ad880000000000

abbrev c5040 : Float
c5040 = f64 0x40b3b00000000000

abbrev c45360 : Float
c45360 = f64 0x40e6260000000000

pub constants :
    (ECCENTRICITY_EPSILON ∷ c6 ∷ c23 ∷ c31 ∷ c180 ∷ c251 ∷ c360 ∷ c517 ∷ c761 ∷ c3780 ∷ c5040 ∷ c45360 ∷ [])
    ≡ (ratio 1 (10 ^ 15) ∷ ratio 6 1 ∷ ratio 23 1 ∷ ratio 31 1 ∷ ratio 180 1 ∷ ratio 251 1 ∷ ratio 360 1 ∷ ratio 517 1 ∷ ratio 761 1 ∷ ratio 3780 1 ∷ ratio 5040 1 ∷ ratio 45360 1 ∷ [])
unfolding of_bits round
constants = refl

-- whether e² counts as a sphere's
unfoldable pub spherical : Float → Bool
spherical e2 = abs e2 ≺ ECCENTRICITY_EPSILON

-- Snyder 3-12
unfoldable pub ellipsoidal_q : Float → Float → Float
ellipsoidal_q lat e2 =
    let e = root e2 in
    let sin_lat = sine lat in
    let e_sin = e ⊗ sin_lat in
    (one ⊖ e2) ⊗ (sin_lat ⊘ (one ⊖ e2 ⊗ sin_lat ⊗ sin_lat) ⊖ one ⊘ (two ⊗ e) ⊗ ln ((one ⊖ e_sin) ⊘ (one ⊕ e_sin)))

-- q; 2 sin φ on a sphere. The source counts e² below 1e-15 in size as a sphere's, which Snyder does not.
unfoldable pub authalic_q : Float → Float → Float
authalic_q lat e2 = cond (spherical e2) (two ⊗ sine lat) (ellipsoidal_q lat e2)

-- Snyder 3-11: β = arcsin (q / q at the pole). The quotient is held to [-1, 1], since rounding may bring it past.
unfoldable pub authalic_latitude : Float → Float → Float
authalic_latitude q q_p = arcsine (clamp (q ⊘ q_p) (neg one) one)

-- Snyder 3-18
unfoldable pub authalic_series : Float → Float → Float
authalic_series beta e2 =
    let e4 = e2 ⊗ e2 in
    let e6 = e4 ⊗ e2 in
    beta ⊕ (e2 ⊘ three ⊕ c31 ⊗ e4 ⊘ c180 ⊕ c517 ⊗ e6 ⊘ c5040) ⊗ sine (two ⊗ beta)
    ⊕ (c23 ⊗ e4 ⊘ c360 ⊕ c251 ⊗ e6 ⊘ c3780) ⊗ sine (four ⊗ beta)
    ⊕ c761 ⊗ e6 ⊘ c45360 ⊗ sine (c6 ⊗ beta)

unfoldable pub geodetic_from_authalic : Float → Float → Float
geodetic_from_authalic beta e2 = cond (spherical e2) beta (authalic_series beta e2)
