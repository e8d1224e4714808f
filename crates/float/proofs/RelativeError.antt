-- Rounding errs by at most 2 ^ -p of the number and half of the smallest unit.
use mathlib.Core.Path.{◌≡◌}
use mathlib.Core.Logic.{◌⊎◌, inl, inr}
use Prim.Native.Nat.{ℕ, ◌+◌, ◌-◌, ◌*◌, ◌^◌, ◌≤◌, ◌<◌}
use native.Mathlib.Nat.{le_refl, mul-one, eq-zero-or-pos, le-div_iff_mul-le}
use native.Mathlib.Omega.{arith}
use lib.Ieee.Order.{drop}
use Rattle.float.proofs.Powers.{twice_pow_pred}
use Rattle.float.proofs.Near.{Near, near_widen, near_mul}
use Rattle.float.proofs.Kept.{dropped_le}
use Rattle.float.proofs.Rounded.{rounded, rounded_whole}
use Rattle.float.proofs.HalfUnit.{rounded_half_step}

-- where digits are dropped, the last that is kept is worth at most 2 ^ (1 - p) of the number
step_le : {p : ℕ} (n : ℕ) {d : ℕ} → 0 < p → 0 < d → (drop p n d ≡ 0) ⊎ (2 ^ p * (d * 2 ^ drop p n d) ≤ 2 * n)
step_le {p} n {d} P D = elim (eq-zero-or-pos (drop p n d)) [
  | inl e ↦ inl e
  | inr K ↦ inr (scale (2 ^ (p - 1)) (2 ^ drop p n d) (2 ^ p) (twice_pow_pred P) ((le-div_iff_mul-le D).0 (dropped_le p n d P K)))
]
  where
    scale : (b u c : ℕ) → c ≡ 2 * b → b * u * d ≤ n → c * (d * u) ≤ 2 * n
    scale b u c e h = rw e (omega arith)

pub rounded_relative : {p : ℕ} (n : ℕ) {d : ℕ} → 0 < p → 0 < d
    → Near (2 ^ p * (2 * (rounded p n d * d))) (2 ^ p * (2 * n)) (2 * n + 2 ^ p * d)
rounded_relative {p} n P D = near_widen (near_mul (2 ^ p) (rounded_half_step p n D)) (elim (step_le n P D) [
  | inl e ↦ rw (e, mul-one) (omega arith)
  | inr l ↦ omega arith
])

-- a whole number of units errs by at most 2 ^ -p of itself
pub whole_relative : {p : ℕ} (n : ℕ) → 0 < p → Near (2 ^ p * rounded_whole p n) (2 ^ p * n) n
whole_relative {p} n P = elim (step_le n P (le_refl 1)) [
  | inl e ↦ same (rounded_whole p n) (2 ^ p) (rw e at (rounded_half_step p n (le_refl 1)))
  | inr l ↦ halve (rounded_whole p n) (2 ^ p) (2 ^ drop p n 1) (near_mul (2 ^ p) (rounded_half_step p n (le_refl 1))) l
]
  where
    same : (r c : ℕ) → Near (2 * (r * 1)) (2 * n) (1 * 1) → Near (c * r) (c * n) n
    same r c h = let e : r ≡ n = omega arith in rw e (omega arith)

    halve : (r c u : ℕ) → Near (c * (2 * (r * 1))) (c * (2 * n)) (c * (1 * u)) → c * (1 * u) ≤ 2 * n → Near (c * r) (c * n) n
    halve r c u h l = omega arith
