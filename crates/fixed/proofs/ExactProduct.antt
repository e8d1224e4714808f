-- k × LN_2_HIGH is exact in ln: LN_2_HIGH has 32 binary digits and k at most 11, so 53 hold the product.
use mathlib.Core.Path.{◌≡◌, refl, sym}
use mathlib.Core.Bool.{Bool, true, false}
use Prim.Native.Nat.{ℕ, suc, ◌+◌, ◌*◌, ◌^◌, ◌≤◌, ◌<◌}
use native.Mathlib.Nat.{mul-one, mul_assoc, mul-le-mul_right, lt_of_le_of_lt, lt_of_lt_of_le}
use native.Mathlib.Omega.{arith}
use lib.Dec.{T, lit≤, lit<}
use lib.IntN.{ℤ, pos, negsuc, nat_abs, ◌+ℤ◌}
use lib.Pow.{pow-add, pow_pos, shl_lt}
use lib.Ieee.{Float, fin, binary64, fits, unlike, of_int, round}
use lib.Ieee.Exact.{HasValue, round_exact}
use lib.Ieee.Scale.{finite}
use Rattle.float.specs.Operators.{◌⊗◌, ◌≺◌}
use Rattle.float.specs.Constants.{+0}
use Rattle.float.proofs.IntegerDifference.{Difference, difference_pos, difference_add, difference_abs}
use Rattle.float.proofs.Powers.{pow_lt_back, pow_le_back}
use Rattle.float.proofs.Fits.{fits_says}
use Rattle.float.proofs.Rounded.{rounded}
use Rattle.float.proofs.RoundedExact.{rounded_exact}
use Rattle.float.proofs.RoundFinite.{round_finite}
use Rattle.float.proofs.Units.{HasUnits}
use Rattle.float.proofs.Values.{same_value}
use Rattle.float.proofs.Product.{mul_units}
use Rattle.fixed.specs.Logarithm.{LN_2_HIGH, places, exponent, ExactProduct}
use Rattle.fixed.proofs.PatternUnits.{normal_units}
use Rattle.fixed.proofs.SplitExact.{difference_negsuc, places_low, by_digits}

unlike_false : (s : Bool) → unlike s false ≡ s
unlike_false true = refl
unlike_false false = refl

regroup : (j c u w : ℕ) → j * c * u * w ≡ j * w * (c * u)
regroup j c u w = omega arith

module _ (s : Bool) (j : ℕ) (small : j < 2 ^ 21) where
  integer : HasValue (round binary64 s j 1) s j 1
  integer = round_exact binary64 s j 1 j 1074 (lit< tt) (omega arith) (lt_of_lt_of_le (shl_lt 21 1074 small) (lit≤ tt)) (sym (mul-one (j * 2 ^ 1074)))

  integer_units : HasUnits binary64 (round binary64 s j 1) s (j * 2 ^ 1074)
  integer_units = record { value = same_value (round binary64 s j 1) s j 1 (j * 2 ^ 1074) (2 ^ 1074) (lit< tt) (sym (mul-one (j * 2 ^ 1074))) integer }

  high_units : HasUnits binary64 LN_2_HIGH false (0xb17217f7 * 2 ^ 1042)
  high_units = normal_units 0x3fe62e42fee00000 1021 (omega arith) refl (λ e. omega arith)

  product_units : HasUnits binary64 (round binary64 s j 1 ⊗ LN_2_HIGH) s (j * 0xb17217f7 * 2 ^ 1042)
  product_units =
      let n = j * 0xb17217f7 in
      let digits : n < 2 ^ 53 = omega arith in
      let whole : n * 2 ^ 1042 * 2 ^ 1074 ≡ j * 2 ^ 1074 * (0xb17217f7 * 2 ^ 1042) = regroup j 0xb17217f7 (2 ^ 1042) (2 ^ 1074) in
      let exact : rounded 53 (j * 2 ^ 1074 * (0xb17217f7 * 2 ^ 1042)) (2 ^ 1074) ≡ n * 2 ^ 1042 =
      rw whole at (rounded_exact {p = 53} (pow_pos 1074) (record { significand = n; exponent = 1042; digits = digits; exact = refl })) in
      rw (mul_units integer_units high_units, unlike_false s, ← exact)
      (round_finite binary64 s (j * 2 ^ 1074 * (0xb17217f7 * 2 ^ 1042)) (pow_pos 1074) (rw exact (lt_of_lt_of_le (shl_lt 53 1042 digits) (lit≤ tt)))).units

  product : HasValue (round binary64 s j 1 ⊗ LN_2_HIGH) s (j * 0xb17217f7) (2 ^ 32)
  product =
      same_value (round binary64 s j 1 ⊗ LN_2_HIGH) s (j * 0xb17217f7 * 2 ^ 1042) (2 ^ 1074) (j * 0xb17217f7) (2 ^ 32) (pow_pos 1074)
      (mul_assoc (j * 0xb17217f7) (2 ^ 1042) (2 ^ 32)) product_units.value

exact_below : (k : ℤ) → nat_abs k < 2 ^ 21 → ExactProduct k
unfolding of_int
exact_below (pos j) h = record { integer = integer false j h; product = product false j h }
exact_below (negsuc j) h = record { integer = integer true (suc j) h; product = product true (suc j) h }

-- k is from -1074 to 1023
record Range (k : ℤ) : Type 0 where
  pub over : ℕ
  pub under : ℕ
  pub is : Difference k over under
  pub low : under ≤ over + 1074
  pub high : over ≤ under + 1023

range_fin : (n : ℕ) (e : ℤ) → T (fits binary64 (fin false (suc n) e)) → Range (exponent (fin false (suc n) e))
unfolding exponent
range_fin n (pos i) t =
    let d = places (suc n) in
    let l = (fits_says binary64 false (suc n) (pos i) t).most in
    let p : 2 ^ d * 2 ^ i < 2 ^ 1024 = lt_of_le_of_lt (mul-le-mul_right (2 ^ i) (places_low (suc n) (omega arith))) (rw mul-one at l) in
    let b : d + i < 1024 = pow_lt_back (rw (← pow-add 2 d i) at p) in
    record { over = i + d; under = 0; is = difference_add (difference_pos i) (difference_pos d); low = omega arith; high = omega arith }
range_fin n (negsuc i) t =
    let d = places (suc n) in
    let s = fits_says binary64 false (suc n) (negsuc i) t in
    let l : d < 53 = pow_lt_back (lt_of_le_of_lt (places_low (suc n) (omega arith)) s.digits) in
    record { over = 0 + d; under = suc i + 0; is = difference_add (difference_negsuc i) (difference_pos d); low = omega (arith, pow_le_back {j = 1074} s.least); high = omega arith }

-- of ln's k, and of the k that is one more
pub exact_product : (x : Float) → T (fits binary64 x) → T (finite x) → (+0 ≺ x) ≡ true → ExactProduct (exponent x) × ExactProduct (exponent x +ℤ pos 1)
exact_product x held finite_x above =
    let r = by_digits x held finite_x above (λ (y : Float). Range (exponent y)) range_fin in (
      exact_below (exponent x) (lt_of_le_of_lt (difference_abs {e = 1074} r.is (omega (arith, r.high)) r.low) (lit< tt)),
      exact_below (exponent x +ℤ pos 1)
          (lt_of_le_of_lt (difference_abs {e = 1074} (difference_add r.is (difference_pos 1)) (omega (arith, r.high)) (omega (arith, r.low))) (lit< tt)),
    )
