-- Numbers of p digits are multiples of 2 ^ k from 2 ^ (p - 1 + k) on.
use mathlib.Core.Path.{◌≡◌, ◌∙◌}
use Prim.Native.Nat.{ℕ, suc, ◌+◌, ◌-◌, ◌*◌, ◌^◌, ◌≤◌, ◌<◌}
use native.Mathlib.Nat.{lt_of_le_of_lt, lt_of_not-le, mul-le-mul_right, lt_of_mul-lt-mul_right}
use native.Mathlib.Decide.{dec_le}
use native.Mathlib.Omega.{arith}
use lib.Pow.{pow-add, pow_pos, shl_lt}
use Rattle.float.proofs.Powers.{twice_pow_pred, pow_lt_back}
use Rattle.float.proofs.Representable.{Representable, lower_exponent}

pub spaced : {p n : ℕ} (k : ℕ) → Representable p n → 2 ^ (p - 1) * 2 ^ k ≤ n → (t : ℕ) × (n ≡ t * 2 ^ k)
spaced {p} {n} k r h =
    let j = r.exponent in
    let b : n < 2 ^ (p + j) = rw r.exact (shl_lt p j r.digits) in
    let l : p - 1 + k < p + j = pow_lt_back (lt_of_le_of_lt (rw (← pow-add) at h) b) in
    let g : k ≤ j = omega arith in
    (r.significand * 2 ^ (j - k), r.exact ∙ lower_exponent r.significand g)

-- so the largest below 2 ^ (p + k) is 2 ^ k below it
pub gap : {p n : ℕ} (k : ℕ) → 0 < p → Representable p n → n < 2 ^ (p + k) → n + 2 ^ k ≤ 2 ^ (p + k)
gap {p} {n} k P r h = rw pow-add (elim (dec_le (2 ^ (p - 1) * 2 ^ k) n) [
  | yes g ↦
      let m = spaced k r g in
      let l : m.0 < 2 ^ p = lt_of_mul-lt-mul_right (2 ^ k) (rw (m.1, pow-add) at h) in
      next n m.0 (2 ^ k) (2 ^ p) m.1 (mul-le-mul_right (2 ^ k) l)
  | no g ↦ half (2 ^ (p - 1)) (2 ^ k) (2 ^ p) (twice_pow_pred P) (mul-le-mul_right (2 ^ k) (pow_pos (p - 1))) g
])
  where
    next : (n t u c : ℕ) → n ≡ t * u → suc t * u ≤ c * u → n + u ≤ c * u
    next n t u c e h = omega arith

    half : (b u c : ℕ) → c ≡ 2 * b → 1 * u ≤ b * u → (b * u ≤ n → ⊥) → n + u ≤ c * u
    half b u c e h g = let l = lt_of_not-le g in rw e (omega arith)
