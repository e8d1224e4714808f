-- ln's m and k: every finite f64 above 0 is m×2^k with 1 ≤ m < 2.
use mathlib.Core.Path.{◌≡◌, refl, sym, ◌∙◌}
use mathlib.Core.Logic.{inl, inr}
use mathlib.Core.Bool.{true, false, true≢false}
use Prim.Native.Nat.{ℕ, zero, suc, ◌*◌, ◌^◌, ◌≤◌, ◌<◌}
use native.Mathlib.Nat.{add-zero, zero-add, mul-one, one-mul, mul_assoc, mul_comm, mul-le-mul_right, pow-succ', eq-zero-or-pos, lt_of_le_of_lt, lt_of_lt_of_le}
use native.Mathlib.Omega.{arith}
use borrow.Author.Tests.{ltb-true}
use lib.Dec.{T, lit≤}
use lib.IntN.{ℤ, pos, negsuc, neg_ℤ, ◌+ℤ◌}
use lib.Pow.{pow-add, pow_mono}
use lib.Ieee.{Float, nan, inf, fin, binary64, size, fits, of_bits, lt, up, down}
use lib.Ieee.Digits.{size-lt, size_reaches}
use lib.Ieee.Scale.{finite}
use Rattle.float.specs.Operators.{◌≺◌}
use Rattle.float.specs.Constants.{+0}
use Rattle.float.proofs.Powers.{pow_lt_back}
use Rattle.float.proofs.Fits.{fits_odd, fits_says, fits_from}
use Rattle.float.proofs.IntegerDifference.{IsDifference, Difference, difference_pos, difference_add}
use Rattle.fixed.specs.Logarithm.{places, mantissa, exponent, Split}

-- 2^(a - b)
pub power : {z : ℤ} {a b : ℕ} → Difference z a b → up z * 2 ^ b ≡ 2 ^ a * down z
power {z} {a} {b} d = go z d.is
  where
    go : (z : ℤ) → IsDifference z a b → up z * 2 ^ b ≡ 2 ^ a * down z
    go (pos n) h = rw (h, pow-add 2 b n, mul-one) (mul_comm (2 ^ n) (2 ^ b))
    go (negsuc n) h = rw (h, pow-add 2 a (suc n)) (one-mul (2 ^ a * 2 ^ suc n))

pub difference_negsuc : (i : ℕ) → Difference (negsuc i) 0 (suc i)
difference_negsuc i = record { is = omega arith }

-- 2^e × 2^d is 2^(e + d)
add_places : (e : ℤ) (d : ℕ) → up e * (2 ^ d * down (e +ℤ pos d)) ≡ up (e +ℤ pos d) * down e
add_places (pos i) d =
    sym (mul_assoc (2 ^ i) (2 ^ d) (down (pos i +ℤ pos d)))
    ∙ rw (← pow-add 2 i d) (sym (power (difference_add (difference_pos i) (difference_pos d))))
add_places (negsuc i) d =
    let k = negsuc i +ℤ pos d in
    let p : up k * 2 ^ suc i ≡ 2 ^ d * down k = rw (add-zero (suc i), zero-add d) at (power (difference_add (difference_negsuc i) (difference_pos d))) in
    one-mul (2 ^ d * down k) ∙ sym p

-- 2^-d
up_minus : (d : ℕ) → up (neg_ℤ (pos d)) ≡ 1
up_minus zero = refl
up_minus (suc d) = refl

down_minus : (d : ℕ) → down (neg_ℤ (pos d)) ≡ 2 ^ d
down_minus zero = refl
down_minus (suc d) = refl

-- a number above 0 has a first digit
size_above : (n : ℕ) → 0 < n → size n ≡ suc (places n)
unfolding places
size_above n h = elim (eq-zero-or-pos (size n)) [
  | inl z ↦ absurd (omega (arith, rw z at (size-lt n)))
  | inr p ↦ omega arith
]

pub places_low : (n : ℕ) → 0 < n → 2 ^ places n ≤ n
places_low n h = size_reaches n (places n) (omega (arith, size_above n h))

places_high : (n : ℕ) → 0 < n → n < 2 * 2 ^ places n
places_high n h = rw (size_above n h, pow-succ' 2 (places n)) at (size-lt n)

split_fin : (n : ℕ) (e : ℤ) → 0 < n → Split (fin false n e) (mantissa (fin false n e)) (exponent (fin false n e))
unfolding mantissa exponent
split_fin n e h =
    let d = places n in
    let k = e +ℤ pos d in
    record {
      a = n;
      c = 2 ^ d;
      one_or_more = places_low n h;
      below_two = places_high n h;
      m_is = (refl, rw (up_minus d, down_minus d, mul-one));
      x_is = (refl, mul_assoc n (up e) (2 ^ d * down k) ∙ rw (add_places e d) (sym (mul_assoc n (up k) (down e))));
    }

fits_fin : (n : ℕ) (e : ℤ) → T (fits binary64 (fin false (suc n) e)) → T (fits binary64 (mantissa (fin false (suc n) e)))
unfolding mantissa
fits_fin n e t =
    let d = places (suc n) in
    let s = fits_says binary64 false (suc n) e t in
    let lo = places_low (suc n) (omega arith) in
    let l : d < 53 = pow_lt_back (lt_of_le_of_lt lo s.digits) in
    fits_from binary64 false n (neg_ℤ (pos d)) (fits_odd binary64 false n e t)
    (record {
      digits = s.digits;
      least = rw (down_minus d) (pow_mono {i = d} {j = 1074} (omega arith));
      most = rw (up_minus d, down_minus d, mul-one) (lt_of_lt_of_le (places_high (suc n) (omega arith)) (mul-le-mul_right (2 ^ d) (lit≤ tt)));
    })

module _ (x : Float) (held : T (fits binary64 x)) (finite_x : T (finite x)) (above : (+0 ≺ x) ≡ true) where
  -- what is finite and above 0 is `fin false (suc n) e`
  pub by_digits : (P : Float → Type 0) → ((n : ℕ) (e : ℤ) → T (fits binary64 (fin false (suc n) e)) → P (fin false (suc n) e)) → P x
  unfolding lt of_bits
  by_digits P k = go x held finite_x above
    where
      go : (x : Float) → T (fits binary64 x) → T (finite x) → (+0 ≺ x) ≡ true → P x
      go nan t f p = absurd f
      go (inf s) t f p = absurd f
      go (fin true n e) t f p = absurd (true≢false (sym p))
      go (fin false zero e) t f p = let q = ltb-true (0 * down e) (0 * up e * 1) p in absurd (omega arith)
      go (fin false (suc n) e) t f p = k n e t

  pub split : Split x (mantissa x) (exponent x)
  split = by_digits (λ (y : Float). Split y (mantissa y) (exponent y)) (λ n e t. split_fin (suc n) e (omega arith))

  pub mantissa_fits : T (fits binary64 (mantissa x))
  mantissa_fits = by_digits (λ (y : Float). T (fits binary64 (mantissa y))) fits_fin
