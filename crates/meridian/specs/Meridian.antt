-- The meridian arc and its inverse, as series to the sixth order in the third flattening n (Karney, arXiv:2212.05818).
use Rattle.std.specs.Prelude.{ℕ, ◌^◌, ◌≡◌, refl, List, [], ◌∷◌, ◌++◌, get_or, take, drop, Float}
use Rattle.std.specs.Float.Ieee.{neg, of_bits, round}
use Rattle.std.specs.Float.{nan}
use Rattle.float.specs.Operators.{◌⊕◌, ◌⊖◌, ◌⊗◌, ◌⊘◌, f64}
use Rattle.float.specs.Constants.{+0, one, two, ratio}
use Rattle.root.specs.Root.{root}
use Rattle.trigonometry.specs.Trigonometry.{sine, cosine}

-- a fold from the last element to the first
unfoldable pub from_end : {A : Type 0} → (Float → A → A) → A → List Float → A
from_end f z [] = z
from_end f z (c ∷ cs) = f c (from_end f z cs)

abbrev pub horner : Float → Float → Float → Float
horner x c y = y ⊗ x ⊕ c

-- c₀ + c₁ x + c₂ x² + ..
unfoldable pub polyval : Float → List Float → Float
unfolding from_end
polyval x p = from_end (horner x) +0 p

-- Clenshaw's last two sums, the later first
pub record Sums : Type 0 where
  pub u0 : Float
  pub u1 : Float

abbrev pub clenshaw_step : Float → Float → Sums → Sums
clenshaw_step x c s = record { u0 = x ⊗ s.u0 ⊖ s.u1 ⊕ c; u1 = s.u0 }

abbrev pub no_sums : Sums
no_sums = record { u0 = +0; u1 = +0 }

-- 2 cos 2ζ
abbrev pub double_cosine : Float → Float → Float
double_cosine sin_zeta cos_zeta = two ⊗ (cos_zeta ⊖ sin_zeta) ⊗ (cos_zeta ⊕ sin_zeta)

-- c₀ sin 2ζ + c₁ sin 4ζ + c₂ sin 6ζ + ..
unfoldable pub clenshaw : Float → Float → List Float → Float
unfolding from_end
clenshaw sin_zeta cos_zeta c = two ⊗ sin_zeta ⊗ cos_zeta ⊗ (from_end (clenshaw_step (double_cosine sin_zeta cos_zeta)) no_sums c).u0

-- the quarter meridian over π (a + b) / 4, in powers of n²
abbrev pub COEFF_RAD : List Float
COEFF_RAD = f64 0x3ff0000000000000 ∷ f64 0x3fd0000000000000 ∷ f64 0x3f90000000000000 ∷ f64 0x3f70000000000000 ∷ []

-- from the latitude φ to the rectifying latitude μ: Karney's equation A5, its zero terms dropped, row by row
abbrev pub COEFF_MU_PHI : List Float
COEFF_MU_PHI =
    f64 0xbff8000000000000 ∷ f64 0x3fe2000000000000 ∷ f64 0xbfb8000000000000
    ∷ f64 0x3fee000000000000 ∷ f64 0xbfde000000000000 ∷ f64 0x3fb0e00000000000
    ∷ f64 0xbfe7555555555555 ∷ f64 0x3fda400000000000
    ∷ f64 0x3fe3b00000000000 ∷ f64 0xbfd7a00000000000
    ∷ f64 0xbfe1533333333333
    ∷ f64 0x3fdf480000000000
    ∷ []

-- from μ to φ: equation A6
abbrev pub COEFF_PHI_MU : List Float
COEFF_PHI_MU =
    f64 0x3ff8000000000000 ∷ f64 0xbfeb000000000000 ∷ f64 0x3fe0d00000000000
    ∷ f64 0x3ff5000000000000 ∷ f64 0xbffb800000000000 ∷ f64 0x3ffa670000000000
    ∷ f64 0x3ff92aaaaaaaaaab ∷ f64 0xc00a100000000000
    ∷ f64 0x4001240000000000 ∷ f64 0xc018493333333333
    ∷ f64 0x400908cccccccccd
    ∷ f64 0x401319e222222222
    ∷ []

-- minus n d is the f64 nearest to -n / d
abbrev minus : ℕ → ℕ → Float
minus n d = neg (ratio n d)

-- The entries: of the first table ((2k - 3)!! / (2k)!!)² for k from 0 to 3, of the others Karney's fractions.
pub constants :
    (COEFF_RAD ++ COEFF_MU_PHI ++ COEFF_PHI_MU)
    ≡ (ratio 1 1 ∷ ratio 1 (2 ^ 2) ∷ ratio 1 (8 ^ 2) ∷ ratio (3 ^ 2) (48 ^ 2)
    ∷ minus 3 2 ∷ ratio 9 16 ∷ minus 3 32
    ∷ ratio 15 16 ∷ minus 15 32 ∷ ratio 135 2048
    ∷ minus 35 48 ∷ ratio 105 256
    ∷ ratio 315 512 ∷ minus 189 512
    ∷ minus 693 1280
    ∷ ratio 1001 2048
    ∷ ratio 3 2 ∷ minus 27 32 ∷ ratio 269 512
    ∷ ratio 21 16 ∷ minus 55 32 ∷ ratio 6759 4096
    ∷ ratio 151 96 ∷ minus 417 128
    ∷ ratio 1097 512 ∷ minus 15543 2560
    ∷ ratio 8011 2560
    ∷ ratio 293393 61440
    ∷ [])
unfolding of_bits round neg
constants = refl

-- n = (a - b) / (a + b) of e²; the root is 1 - f
unfoldable pub third_flattening : Float → Float
third_flattening es = let one_minus_f = root (one ⊖ es) in (one ⊖ one_minus_f) ⊘ (one ⊕ one_minus_f)

-- what the rectifying latitude μ is multiplied by: the arc in units of a
unfoldable pub arc_factor : Float → Float
arc_factor n = polyval (n ⊗ n) COEFF_RAD ⊘ (one ⊕ n)

-- Rows of these lengths are taken off the table. Each gives a polynomial in n², times a power of n that is one higher at each row.
unfoldable pub rows : Float → Float → List ℕ → List Float → List Float
rows n power [] table = []
rows n power (width ∷ widths) table = power ⊗ polyval (n ⊗ n) (take width table) ∷ rows n (power ⊗ n) widths (drop width table)

-- the coefficients of sin 2ζ, sin 4ζ, .. sin 12ζ
unfoldable pub sine_coefficients : Float → List Float → List Float
unfolding rows
sine_coefficients n table = rows n n (3 ∷ 3 ∷ 2 ∷ 2 ∷ 1 ∷ 1 ∷ []) table

unfoldable pub coefficients : Float → List Float
coefficients n = arc_factor n ∷ (sine_coefficients n COEFF_MU_PHI ++ sine_coefficients n COEFF_PHI_MU)

-- 01's thirteen numbers: one arc factor, six sine coefficients forward, six back
unfoldable pub meridian_arc_coefficients : Float → List Float
unfolding coefficients
meridian_arc_coefficients es = coefficients (third_flattening es)

-- the arc from the equator to the latitude φ, in units of a
unfoldable pub meridian_arc : Float → Float → Float → List Float → Float
meridian_arc phi sin_phi cos_phi en = get_or en 0 nan ⊗ (phi ⊕ clenshaw sin_phi cos_phi (take 6 (drop 1 en)))

-- the latitude φ at the end of an arc from the equator
unfoldable pub inverse_meridian_arc : Float → List Float → Float
inverse_meridian_arc ml en =
    let mu = ml ⊘ get_or en 0 nan in
    mu ⊕ clenshaw (sine mu) (cosine mu) (take 6 (drop 7 en))
