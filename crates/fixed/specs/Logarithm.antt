-- ln (document 01, Fixed functions).
use Rattle.std.specs.Prelude.{◌≡◌, refl, true, false, not, cond, [], ◌∷◌, ℕ, ◌-◌, ◌*◌, ◌^◌, ◌≤◌, ◌<◌, ℤ, pos, neg_ℤ, nat_abs, ◌+ℤ◌, Float}
use Rattle.std.specs.Int.Signed.{non_neg}
use Rattle.std.specs.Float.{nan, inf, fin, binary64}
use Rattle.std.specs.Float.Ieee.{size, of_bits, of_int, round, up, down}
use Rattle.std.specs.Float.Ieee.Exact.{HasValue}
use Rattle.std.specs.Float.Ieee.Scale.{finite}
use Rattle.float.specs.Operators.{◌⊕◌, ◌⊖◌, ◌⊗◌, ◌⊘◌, ◌≺◌, ◌≈◌, f64}
use Rattle.float.specs.Constants.{+0, one, two, half, ratio}
use Rattle.root.specs.Root.{root}
use Rattle.sums.specs.NestedSum.{nested}
use Rattle.sums.specs.InverseOdds.{inverse_odds}

abbrev pub SQRT_2 : Float
SQRT_2 = f64 0x3ff6a09e667f3bcd

-- ln 2 in two words, as 01 gives them: its first 32 binary digits, and the f64 nearest to the rest (`ln_2_between` of specs/LnTwo)
abbrev pub LN_2_HIGH : Float
LN_2_HIGH = f64 0x3fe62e42fee00000

abbrev pub LN_2_LOW : Float
LN_2_LOW = f64 0x3dea39ef35793c76

-- how many binary digits n has after its first: with d of them, 2^d ≤ n < 2^(d + 1)
unfoldable pub places : ℕ → ℕ
places n = size n - 1

-- 01's m and k of a finite x above 0. `fin s n e` is n×2^e, with an odd n. Where n has d binary digits after its first, m = n×2^-d, so that 1 ≤ m < 2,
-- and k = e + d.
unfoldable pub mantissa : Float → Float
mantissa nan = nan
mantissa (inf s) = inf s
mantissa (fin s n e) = fin s n (neg_ℤ (pos (places n)))

unfoldable pub exponent : Float → ℤ
exponent nan = pos 0
exponent (inf s) = pos 0
exponent (fin s n e) = e +ℤ pos (places n)

-- ln of m×2^k for an m near 1, n being k as an f64
unfoldable pub ln_near_one : Float → Float → Float
ln_near_one m n =
    let s = (m ⊖ one) ⊘ (m ⊕ one) in
    n ⊗ LN_2_HIGH ⊕ ((two ⊗ s) ⊗ nested (s ⊗ s) inverse_odds ⊕ n ⊗ LN_2_LOW)

-- ln of m×2^k: m above SQRT_2 is halved, and k is one more
unfoldable pub ln_parts : Float → ℤ → Float
ln_parts m k = cond (SQRT_2 ≺ m) (ln_near_one (m ⊗ half) (of_int binary64 (k +ℤ pos 1))) (ln_near_one m (of_int binary64 k))

-- 0 of either sign gives -infinity, NaN and negatives NaN, +infinity itself
unfoldable pub ln : Float → Float
ln x = cond (+0 ≺ x) (cond (finite x) (ln_parts (mantissa x) (exponent x)) x) (cond (x ≈ +0) (inf true) nan)

-- x = m×2^k and 1 ≤ m < 2, exactly: m is a / c, and 2^k is up k / down k. `split` proves it of `mantissa` and `exponent`; `same_m` and `same_k` prove that
-- no other m and k are so.
pub record Split (x m : Float) (k : ℤ) : Type 0 where
  pub a : ℕ
  pub c : ℕ
  pub one_or_more : c ≤ a
  pub below_two : a < 2 * c
  pub m_is : HasValue m false a c
  pub x_is : HasValue x false (a * up k) (c * down k)

-- k as an f64 and its product with LN_2_HIGH, which is 0xb17217f7 / 2^32, are exact. `exact_product` proves it of each k that `ln` multiplies.
pub record ExactProduct (k : ℤ) : Type 0 where
  pub integer : HasValue (of_int binary64 k) (not (non_neg k)) (nat_abs k) 1
  pub product : HasValue (of_int binary64 k ⊗ LN_2_HIGH) (not (non_neg k)) (nat_abs k * 0xb17217f7) (2 ^ 32)

-- what SQRT_2 is, and LN_2_HIGH as a fraction
pub constants : (SQRT_2 ∷ LN_2_HIGH ∷ []) ≡ (root two ∷ ratio 0xb17217f7 (2 ^ 32) ∷ [])
unfolding of_bits round root
constants = refl
