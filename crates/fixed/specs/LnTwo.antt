-- LN_2_HIGH and LN_2_LOW against ln 2. ln 2 = 2 artanh(1/3), and artanh(1/3) = 1/3 + 1/(3×3³) + 1/(5×3⁵) + .. . Each term is below a ninth of the one
-- before it, so what the first n terms leave out is below 1 + 1/9 + 1/81 + .. = 9/8 times the next one.
use Rattle.std.specs.Prelude.{◌≡◌, refl, [], ◌∷◌, ℕ, zero, suc, ◌+◌, ◌*◌, ◌/◌, ◌^◌}
use Rattle.std.specs.Float.Ieee.{round, of_bits}
use Rattle.float.specs.Fractions.{Fraction, over, plus, minus, times, term, nearest_f64}
use Rattle.fixed.specs.Logarithm.{LN_2_HIGH, LN_2_LOW}

-- the first n terms of artanh(1/3): below it
unfoldable pub artanh_low : ℕ → Fraction
artanh_low zero = over 0 1
artanh_low (suc n) = plus (artanh_low n) (term 3 (2 * n + 1))

-- 9/8 of the next term more: above it
unfoldable pub artanh_high : ℕ → Fraction
artanh_high n = plus (artanh_low n) (over 9 (8 * ((2 * n + 1) * 3 ^ (2 * n + 1))))

-- below ln 2 and above it, less than 2^-100 apart
unfoldable pub ln_2_low : Fraction
ln_2_low = times 2 (artanh_low 30)

unfoldable pub ln_2_high : Fraction
ln_2_high = times 2 (artanh_high 30)

-- p cut off after 32 binary digits, and what is cut off
abbrev pub first_32 : Fraction → Fraction
first_32 p = over (p.num * 2 ^ 32 / p.den) (2 ^ 32)

abbrev pub after_32 : Fraction → Fraction
after_32 p = minus p (first_32 p)

-- LN_2_HIGH is ln 2 cut off after 32 binary digits, and LN_2_LOW the f64 nearest to what is cut off. The bound below and the bound above give the same.
pub ln_2_between :
    (nearest_f64 (first_32 ln_2_low) ∷ nearest_f64 (first_32 ln_2_high) ∷ nearest_f64 (after_32 ln_2_low) ∷ nearest_f64 (after_32 ln_2_high) ∷ [])
    ≡ (LN_2_HIGH ∷ LN_2_HIGH ∷ LN_2_LOW ∷ LN_2_LOW ∷ [])
unfolding artanh_low artanh_high ln_2_low ln_2_high of_bits round
ln_2_between = refl
