-- PI and LO against π. By Machin, π = 16 arctan(1/5) - 4 arctan(1/239). The series arctan(1/x) = 1/x - 1/(3x³) + 1/(5x⁵) - .. alternates and its
-- terms fall to 0, so arctan(1/x) lies between any two partial sums that follow each other.
use Rattle.std.specs.Prelude.{◌≡◌, refl, [], ◌∷◌, ℕ, zero, suc, ◌+◌, ◌*◌, ◌^◌}
use Rattle.std.specs.Float.Ieee.{round, of_bits}
use Rattle.float.specs.Constants.{PI, FRAC_PI_2, LO}
use Rattle.float.specs.Fractions.{Fraction, over, plus, minus, times, term, nearest_f64}

-- the first 2n terms of arctan(1/x): below it
unfoldable pub arctan_low : ℕ → ℕ → Fraction
arctan_low x zero = over 0 1
arctan_low x (suc n) = plus (arctan_low x n) (minus (term x (4 * n + 1)) (term x (4 * n + 3)))

-- one term more: above it
unfoldable pub arctan_high : ℕ → ℕ → Fraction
arctan_high x n = plus (arctan_low x n) (term x (4 * n + 1))

-- below π and above it, less than 2^-120 apart
unfoldable pub pi_low : Fraction
pi_low = minus (times 16 (arctan_low 5 13)) (times 4 (arctan_high 239 4))

unfoldable pub pi_high : Fraction
pi_high = minus (times 16 (arctan_high 5 13)) (times 4 (arctan_low 239 4))

-- FRAC_PI_2 as a fraction
abbrev pub frac_pi_2 : Fraction
frac_pi_2 = over 0x1921fb54442d18 (2 ^ 52)

-- what FRAC_PI_2 is short of half of p
abbrev pub short_of_half : Fraction → Fraction
short_of_half p = minus (over p.num (2 * p.den)) frac_pi_2

-- PI is the f64 nearest to π, and LO the one nearest to π/2 - FRAC_PI_2. The bound below and the bound above both round to it, and rounding keeps the
-- order (`rounded_mono`).
pub pi_between :
    (nearest_f64 pi_low ∷ nearest_f64 pi_high
    ∷ nearest_f64 frac_pi_2 ∷ nearest_f64 (short_of_half pi_low) ∷ nearest_f64 (short_of_half pi_high) ∷ [])
    ≡ (PI ∷ PI ∷ FRAC_PI_2 ∷ LO ∷ LO ∷ [])
unfolding arctan_low arctan_high pi_low pi_high of_bits round
pi_between = refl
