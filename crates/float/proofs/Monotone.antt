-- Rounding keeps the order, so nothing is rounded past a number of p digits.
use mathlib.Core.Path.{◌≡◌, sym}
use mathlib.Core.Logic.{inl, inr}
use Prim.Native.Nat.{ℕ, ◌+◌, ◌-◌, ◌*◌, ◌/◌, ◌^◌, ◌≤◌, ◌<◌, zero-le}
use native.Mathlib.Nat.{le_refl, le_trans, le_of_eq, le_antisymm, lt_of_le_of_lt, eq-or-lt_of_le}
use native.Mathlib.Nat.{mul-one, mul_assoc, mul-pos, mul-le-mul_right}
use native.Mathlib.Omega.{arith}
use lib.Pow.{pow-add, pow_pos, pow_mono}
use lib.Ieee.{size}
use lib.Ieee.Digits.{size-lt, size-le}
use lib.Ieee.Nearest.{closest, closest_mono, div_mono}
use lib.Ieee.Order.{drop}
use Rattle.float.proofs.Representable.{Representable}
use Rattle.float.proofs.Kept.{kept_le, kept_ge}
use Rattle.float.proofs.Rounded.{rounded, rounded_whole}
use Rattle.float.proofs.RoundedExact.{rounded_exact}

module _ {p b d : ℕ} (a c : ℕ) (P : 0 < p) (B : 0 < b) (D : 0 < d) where
  drop_mono : a * d ≤ c * b → drop p a b ≤ drop p c d
  drop_mono h =
      let l = size-le (a / b) (size (c / d)) (lt_of_le_of_lt (div_mono a b c d B D h) (size-lt (c / d))) in
      omega arith

  same_drop : (k : ℕ) → a * d ≤ c * b → closest a (b * 2 ^ k) * 2 ^ k ≤ closest c (d * 2 ^ k) * 2 ^ k
  same_drop k h =
      mul-le-mul_right (2 ^ k)
      (closest_mono a (b * 2 ^ k) c (d * 2 ^ k) (mul-pos B (pow_pos k)) (mul-pos D (pow_pos k))
      (rw (← mul_assoc a d, ← mul_assoc c b) (mul-le-mul_right (2 ^ k) h)))

  -- a / b is at most c / d: both drop as many digits, or a power of two lies between the results
  pub rounded_mono : a * d ≤ c * b → rounded p a b ≤ rounded p c d
  unfolding rounded
  rounded_mono h =
      let j = drop p a b in
      let k = drop p c d in
      elim (eq-or-lt_of_le (drop_mono h)) [
        | inl e ↦ rw e (same_drop k h)
        | inr l ↦
            let room : p + j ≤ p - 1 + k = omega arith in
            le_trans (rw (← pow-add) at (mul-le-mul_right (2 ^ j) (kept_le p a b)))
            (le_trans (pow_mono room) (rw (← pow-add) at (mul-le-mul_right (2 ^ k) (kept_ge p c d P (lt_of_le_of_lt zero-le l)))))
      ]

-- only the fraction's value counts
pub rounded_same : {p b d : ℕ} (a c : ℕ) → 0 < p → 0 < b → 0 < d → a * d ≡ c * b → rounded p a b ≡ rounded p c d
rounded_same a c P B D e = le_antisymm (rounded_mono a c P B D (le_of_eq e)) (rounded_mono c a P D B (le_of_eq (sym e)))

-- nothing passes a number of p digits
pub rounded_le : {p n d b : ℕ} → 0 < p → 0 < d → Representable p b → n ≤ b * d → rounded p n d ≤ b
rounded_le {n = n} {d} {b} P D r h = rw (rounded_exact D r) at (rounded_mono n (b * d) P D D (mul-le-mul_right d h))

pub rounded_ge : {p n d b : ℕ} → 0 < p → 0 < d → Representable p b → b * d ≤ n → b ≤ rounded p n d
rounded_ge {n = n} {d} {b} P D r h = rw (rounded_exact D r) at (rounded_mono (b * d) n P D D (mul-le-mul_right d h))

-- whole numbers of units
pub whole_mono : {p m n : ℕ} → 0 < p → m ≤ n → rounded_whole p m ≤ rounded_whole p n
whole_mono {m = m} {n} P h = rounded_mono m n P (le_refl 1) (le_refl 1) (mul-le-mul_right 1 h)

pub whole_le : {p n b : ℕ} → 0 < p → Representable p b → n ≤ b → rounded_whole p n ≤ b
whole_le P r h = rounded_le P (le_refl 1) r (rw mul-one h)

pub whole_ge : {p n b : ℕ} → 0 < p → Representable p b → b ≤ n → b ≤ rounded_whole p n
whole_ge P r h = rounded_ge P (le_refl 1) r (rw mul-one h)
