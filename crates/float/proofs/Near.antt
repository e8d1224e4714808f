-- Two numbers that differ by at most e.
use Prim.Native.Nat.{ℕ, ◌+◌, ◌*◌, ◌≤◌}
use native.Mathlib.Nat.{mul-le-mul_right}
use native.Mathlib.Omega.{arith}

pub record Near (x a e : ℕ) : Type 0 where
  pub over : x ≤ a + e
  pub under : a ≤ x + e

pub near_widen : {x a d e : ℕ} → Near x a d → d ≤ e → Near x a e
near_widen h l = omega arith

pub near_mul : {x a e : ℕ} (c : ℕ) → Near x a e → Near (c * x) (c * a) (c * e)
near_mul c h = omega (arith, mul-le-mul_right c h.over, mul-le-mul_right c h.under)
