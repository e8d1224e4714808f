-- ln's m and k by the bits, as the code has them: m has x's digits under the exponent's field of 1, and k is x's field less that of 1. A subnormal x has no
-- leading digit in its pattern, so it is scaled by 2^54 first, exactly.
use mathlib.Core.Path.{◌≡◌, refl, sym, ◌∙◌, ap, ap₂, subst}
use mathlib.Core.Bool.{true, false}
use Prim.Native.Nat.{ℕ, zero, suc, ◌+◌, ◌*◌, ◌/◌, ◌%◌, ◌^◌, ◌≤◌, ◌<◌}
use native.Mathlib.Nat.{add-zero, zero-add, mul_assoc, mul-pos, pow-succ', lt_of_lt_of_le}
use native.Mathlib.Omega.{arith}
use borrow.Author.Tests.{leb-false, ltb-true, ltb-false}
use lib.Dec.{T, ltb, lit≤}
use lib.IntN.{ℤ, pos, ◌-ℤ◌}
use lib.Pow.{pow-add, pow_pos, shl_lt}
use lib.Ieee.{Float, nan, inf, fin, binary64, fits, to_bits, of_bits, lt, up, down, top}
use lib.Ieee.Bits.{of_bits-to_bits, of_bits-fits}
use lib.Ieee.Exact.{HasValue}
use lib.Ieee.Scale.{finite}
use Rattle.float.specs.Operators.{◌⊗◌, ◌≺◌, f64}
use Rattle.float.specs.Constants.{+0}
use Rattle.float.specs.Sign.{negative}
use Rattle.float.specs.Units.{unit_count}
use Rattle.float.proofs.SignBit.{top_bit}
use Rattle.float.proofs.Rounded.{rounded}
use Rattle.float.proofs.RoundedExact.{rounded_exact}
use Rattle.float.proofs.IntegerDifference.{difference_pos, difference_sub}
use Rattle.float.proofs.Units.{HasUnits, units_count, units_finite, units_sign}
use Rattle.float.proofs.Finite.{Finite, finite_of}
use Rattle.float.proofs.RoundFinite.{round_finite}
use Rattle.float.proofs.Values.{same_value}
use Rattle.float.proofs.Product.{mul_units}
use Rattle.float.proofs.Comparison.{lt_units}
use Rattle.fixed.specs.Logarithm.{mantissa, exponent, ln_parts, Split}
use Rattle.fixed.proofs.PatternUnits.{subnormal_units, normal_units, top_field}
use Rattle.fixed.proofs.SplitExact.{power, split, mantissa_fits}
use Rattle.fixed.proofs.SplitUnique.{same_k, same_m}

-- the least normal f64, 2^-1022
abbrev pub MIN_POSITIVE : Float
MIN_POSITIVE = f64 0x0010000000000000

abbrev pub TWO_54 : Float
TWO_54 = f64 0x4350000000000000

-- m and k of a pattern b, `bias` being the field of 2^0
abbrev pub m_of : ℕ → Float
m_of b = f64 (0x3ff0000000000000 + b % 2 ^ 52)

abbrev pub k_of : ℕ → ℕ → ℤ
k_of b bias = pos (b / 2 ^ 52) -ℤ pos bias

cross : (q j d p h c e : ℕ) → p * (c * h) ≡ 2 * j * d → q * j * (2 * e * d) ≡ q * p * (c * e * h)
cross q j d p h c e k =
    let l : q * j * (2 * e * d) ≡ q * e * (2 * j * d) = omega arith in
    let r : q * p * (c * e * h) ≡ q * e * (p * (c * h)) = omega arith in
    l ∙ ap (λ (n : ℕ). q * e * n) (sym k) ∙ sym r

-- of a pattern b whose number is normal, and 2^h times x
module _ (x : Float) (b h a : ℕ) (no_sign : b < 2 ^ 63) (v : HasUnits binary64 (f64 b) false a) (normal : 2 ^ 52 ≤ a)
    (w : HasValue x false a (2 ^ 1074 * 2 ^ h)) where
  same_count : (n : ℕ) → HasUnits binary64 (f64 b) false n → a ≡ n
  same_count n u = sym (units_count v) ∙ units_count u

  finite_field : (j : ℕ) → b / 2 ^ 52 ≡ suc j → suc j ≡ 2047 → ⊥
  finite_field j e g = subst T (top_field b no_sign (e ∙ g)) (units_finite v)

  from_field : (n : ℕ) → b / 2 ^ 52 ≡ n → Split x (m_of b) (pos n -ℤ pos (1023 + h))
  from_field zero e = absurd (omega (arith, same_count b (subnormal_units b (omega arith))))
  from_field (suc j) e =
      let q = 2 ^ 52 + b % 2 ^ 52 in
      let c = 0x3ff0000000000000 + b % 2 ^ 52 in
      let k = pos (suc j) -ℤ pos (1023 + h) in
      let a_is : a ≡ q * 2 ^ j = same_count (q * 2 ^ j) (normal_units b j no_sign e (finite_field j e)) in
      let p : up k * 2 ^ (1023 + h) ≡ 2 ^ suc j * down k = rw (add-zero (suc j), zero-add (1023 + h)) at (power (difference_sub (difference_pos (suc j)) (difference_pos (1023 + h)))) in
      let d : up k * (2 ^ 1023 * 2 ^ h) ≡ 2 * 2 ^ j * down k = rw (pow-add 2 1023 h, pow-succ' 2 j) at p in
      let digits : c % 2 ^ 52 ≡ b % 2 ^ 52 = omega arith in
      let m : HasUnits binary64 (f64 c) false (q * 2 ^ 1022) = rw digits at (normal_units c 1022 (omega arith) (omega arith) (λ g. omega arith)) in
      record {
        a = q;
        c = 2 ^ 52;
        one_or_more = omega arith;
        below_two = omega arith;
        m_is = same_value (f64 c) false (q * 2 ^ 1022) (2 ^ 1074) q (2 ^ 52) (pow_pos 1074) (mul_assoc q (2 ^ 1022) (2 ^ 52)) m.value;
        x_is = same_value x false a (2 ^ 1074 * 2 ^ h) (q * up k) (2 ^ 52 * down k) (mul-pos (pow_pos 1074) (pow_pos h))
            (rw a_is (cross q (2 ^ j) (down k) (up k) (2 ^ h) (2 ^ 1023) (2 ^ 51) d)) w;
      }

-- of a normal y, 2^h times x
normal_split : (x y : Float) (h a : ℕ) → Finite binary64 y false a → 2 ^ 52 ≤ a → HasValue x false a (2 ^ 1074 * 2 ^ h)
    → Split x (m_of (to_bits binary64 y)) (k_of (to_bits binary64 y) (1023 + h))
normal_split x y h a f l w =
    let b = to_bits binary64 y in
    from_field x b h a (leb-false (top binary64) b (top_bit y f.held ∙ units_sign f.units))
    (rw (of_bits-to_bits binary64 y f.held) f.units) l w (b / 2 ^ 52) refl

above_zero : (x : Float) → (+0 ≺ x) ≡ true → negative x ≡ false
unfolding lt of_bits negative
above_zero nan p = refl
above_zero (inf true) p = sym p
above_zero (inf false) p = refl
above_zero (fin true m e) p = sym p
above_zero (fin false m e) p = refl

module _ (x : Float) (held : T (fits binary64 x)) (finite_x : T (finite x)) (above : (+0 ≺ x) ≡ true) where
  is_finite : Finite binary64 x false (unit_count binary64 x)
  is_finite = rw (above_zero x above) at (finite_of binary64 x held finite_x)

  some : 0 < unit_count binary64 x
  some = ltb-true 0 (unit_count binary64 x) (sym (lt_units (subnormal_units 0 (omega arith)) is_finite.units) ∙ above)

  is_small : (x ≺ MIN_POSITIVE) ≡ ltb (unit_count binary64 x) (2 ^ 52)
  is_small = lt_units is_finite.units (normal_units (2 ^ 52) 0 (omega arith) refl (λ e. omega arith))

  pub scaling_exact : (x ≺ MIN_POSITIVE) ≡ true → Finite binary64 (x ⊗ TWO_54) false (unit_count binary64 x * 2 ^ 54)
  scaling_exact e =
      let n = unit_count binary64 x in
      let small : n < 2 ^ 52 = ltb-true n (2 ^ 52) (sym is_small ∙ e) in
      let exact : rounded 53 (n * 2 ^ 1128) (2 ^ 1074) ≡ n * 2 ^ 54 =
      rw (mul_assoc n (2 ^ 54) (2 ^ 1074)) at (rounded_exact {p = 53} (pow_pos 1074) (record { significand = n; exponent = 54; digits = omega arith; exact = refl })) in
      rw (mul_units is_finite.units (normal_units 0x4350000000000000 1076 (omega arith) refl (λ e. omega arith)), ← exact)
      (round_finite binary64 false (n * 2 ^ 1128) (pow_pos 1074) (rw exact (lt_of_lt_of_le (shl_lt 52 54 small) (lit≤ tt))))

  split_small : (x ≺ MIN_POSITIVE) ≡ true → Split x (m_of (to_bits binary64 (x ⊗ TWO_54))) (k_of (to_bits binary64 (x ⊗ TWO_54)) 1077)
  split_small e =
      let n = unit_count binary64 x in
      normal_split x (x ⊗ TWO_54) 54 (n * 2 ^ 54) (scaling_exact e) (omega (arith, some))
      (same_value x false n (2 ^ 1074) (n * 2 ^ 54) (2 ^ 1074 * 2 ^ 54) (pow_pos 1074) (sym (mul_assoc n (2 ^ 54) (2 ^ 1074))) is_finite.units.value)

  split_normal : (x ≺ MIN_POSITIVE) ≡ false → Split x (m_of (to_bits binary64 x)) (k_of (to_bits binary64 x) 1023)
  split_normal e =
      let n = unit_count binary64 x in
      normal_split x x 0 n is_finite (ltb-false n (2 ^ 52) (sym is_small ∙ e)) is_finite.units.value

  -- a pattern that splits x gives the definition's m and k
  same_parts : (b bias : ℕ) → Split x (m_of b) (k_of b bias) → ln_parts (m_of b) (k_of b bias) ≡ ln_parts (mantissa x) (exponent x)
  same_parts b bias s =
      let t = split x held finite_x above in
      ap₂ ln_parts (same_m s t (of_bits-fits binary64 (0x3ff0000000000000 + b % 2 ^ 52)) (mantissa_fits x held finite_x above)) (same_k s t)

  pub parts_small : (x ≺ MIN_POSITIVE) ≡ true
      → ln_parts (m_of (to_bits binary64 (x ⊗ TWO_54))) (k_of (to_bits binary64 (x ⊗ TWO_54)) 1077) ≡ ln_parts (mantissa x) (exponent x)
  parts_small e = same_parts (to_bits binary64 (x ⊗ TWO_54)) 1077 (split_small e)

  pub parts_normal : (x ≺ MIN_POSITIVE) ≡ false
      → ln_parts (m_of (to_bits binary64 x)) (k_of (to_bits binary64 x) 1023) ≡ ln_parts (mantissa x) (exponent x)
  parts_normal e = same_parts (to_bits binary64 x) 1023 (split_normal e)

pub minus_infinity : f64 0xfff0000000000000 ≡ inf true
unfolding of_bits
minus_infinity = refl
