-- The bits of q * 2 ^ k units, for a q of 53 digits: k in the exponent's field, and q's leading digit adds one to it.
use Rattle.std.proofs.Common.{◌≡◌, ℕ, suc, ◌+◌, ◌-◌, ◌*◌, ◌/◌, ◌%◌, ◌^◌, ◌<◌, ◌≤◌, false, not, T, ltb, sym, inl, inr, le_of_eq, lt_of_lt_of_le, lt_of_le_of_lt, mul-le-mul_right, mul_assoc, le_antisymm, eq-or-lt_of_le, not-le_of_lt, mul-div_cancel, arith, lit<, ltb→lt, pow_pos, pow_mono, pow-add, shl_lt}
use native.Mathlib.Nat.{pow-succ'}
use lib.Dec.{not_T}
use lib.Ieee.{Float, nan, inf, fin, binary64, size, odd, inf, units, fits, to_bits, of_bits, nan_bits}
use lib.Ieee.Digits.{size-lt, size-le}
use lib.Ieee.Fits.{odd-fits, cond-fits, inf-fits}
use lib.Ieee.Bits.{of_bits-to_bits, nan_bits_above}
use lib.Ieee.Exact.{HasValue, units_val}
use Rattle.float.specs.Sign.{negative}
use Rattle.float.specs.Units.{unit_count}
use Rattle.float.proofs.Powers.{pow_lt_back}
use Rattle.float.proofs.Units.{HasUnits, units_count, units_sign}

-- the number of digits of m * 2 ^ e, where m has a + 1
pub size_scaled : (a m e : ℕ) → 2 ^ a ≤ m → m < 2 ^ suc a → size (m * 2 ^ e) ≡ suc a + e
size_scaled a m e lo hi =
    let l : a + e < size (m * 2 ^ e) = pow_lt_back (lt_of_le_of_lt (rw (pow-add 2 a e) (mul-le-mul_right (2 ^ e) lo)) (size-lt (m * 2 ^ e))) in
    le_antisymm (size-le (m * 2 ^ e) (suc a + e) (shl_lt (suc a) e hi)) (omega arith)

-- the bits by the number of units
pub bits_of_units : {x : Float} {a : ℕ} → HasUnits binary64 x false a → to_bits binary64 x ≡ (size a - 53) * 2 ^ 52 + a / 2 ^ (size a - 53)
unfolding to_bits unit_count negative
bits_of_units {x} {a} v = go x v.value (units_sign v) (units_count v)
  where
    go : (x : Float) → HasValue x false a (2 ^ 1074) → negative x ≡ false → unit_count binary64 x ≡ a → to_bits binary64 x ≡ (size a - 53) * 2 ^ 52 + a / 2 ^ (size a - 53)
    go nan v n h = elim v [ ]
    go (inf _) v n h = elim v [ ]
    go (fin s m e) v n h = rw (n, h) (omega arith)

packed_bits : (q k : ℕ) → 2 ^ 52 ≤ q → q ≤ 2 ^ 53 → (size (q * 2 ^ k) - 53) * 2 ^ 52 + q * 2 ^ k / 2 ^ (size (q * 2 ^ k) - 53) ≡ k * 2 ^ 52 + q
packed_bits q k lo hi = elim (eq-or-lt_of_le hi) [
  | inl e ↦
      let z : size (q * 2 ^ k) - 53 ≡ suc k = omega (arith, size_scaled 53 q k (le_of_eq (sym e)) (lt_of_le_of_lt hi (lit< tt))) in
      let y : q * 2 ^ k ≡ 2 ^ 52 * 2 ^ suc k = rw (e, pow-succ' 2 k, ← mul_assoc) in
      rw (z, y, mul-div_cancel (2 ^ 52) (pow_pos (suc k)), e) (omega arith)
  | inr l ↦
      let z : size (q * 2 ^ k) - 53 ≡ k = omega (arith, size_scaled 52 q k lo l) in
      rw (z, mul-div_cancel q (pow_pos k))
]

module _ (q k : ℕ) (hi : q ≤ 2 ^ 53) (K : k ≤ 2044) where
  under : q * 2 ^ k < 2 ^ 2098
  under = lt_of_lt_of_le (shl_lt 54 k (lt_of_le_of_lt hi (lit< tt))) (pow_mono {i = 54 + k} {j = 2098} (omega arith))

  pub packed_units : HasUnits binary64 (units binary64 false q k) false (q * 2 ^ k)
  packed_units = record { value = units_val binary64 false q k under }

  pub packed_fits : T (fits binary64 (units binary64 false q k))
  unfolding units
  packed_fits = cond-fits binary64 (ltb (q * 2 ^ k) (2 ^ 2098)) (odd 54 false q k 1074) (inf false) (odd-fits binary64 54 false q k (lt_of_le_of_lt hi (lit< tt)) hi under) (inf-fits binary64 false)

  pub packed : 2 ^ 52 ≤ q → of_bits binary64 (k * 2 ^ 52 + q) ≡ units binary64 false q k
  packed lo = rw (← (packed_bits q k lo hi), ← (bits_of_units packed_units)) (of_bits-to_bits binary64 (units binary64 false q k) packed_fits)

  pub packed_no_nan : T (not (nan_bits binary64 (k * 2 ^ 52 + q)))
  packed_no_nan = rw (nan_bits_above binary64) (not_T (ltb (2047 * 2 ^ 52) ((k * 2 ^ 52 + q) % 2 ^ 63)) (λ t. not-le_of_lt (ltb→lt (2047 * 2 ^ 52) ((k * 2 ^ 52 + q) % 2 ^ 63) t) (omega arith)))
