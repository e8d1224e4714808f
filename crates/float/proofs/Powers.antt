-- Powers of two: the half of one, and the order of their exponents.
use mathlib.Core.Path.{◌≡◌, sym, ap, ◌∙◌}
use Prim.Native.Nat.{ℕ, ◌-◌, ◌*◌, ◌^◌, ◌≤◌, ◌<◌}
use native.Mathlib.Nat.{lt_of_lt_of_le, lt_irrefl, lt_of_not-le, not-le_of_lt, mul_comm, sub-add_cancel, le_of_suc-le-suc}
use lib.Pow.{pow-add, pow_mono, pow-lt}

pub twice_pow_pred : {p : ℕ} → 0 < p → 2 ^ p ≡ 2 * 2 ^ (p - 1)
twice_pow_pred {p} P = ap (λ (x : ℕ). 2 ^ x) (sym (sub-add_cancel P)) ∙ pow-add 2 (p - 1) 1 ∙ mul_comm (2 ^ (p - 1)) 2

pub pow_lt_back : {i j : ℕ} → 2 ^ i < 2 ^ j → i < j
pow_lt_back {i} {j} h = lt_of_not-le (λ (g : j ≤ i). lt_irrefl (2 ^ i) (lt_of_lt_of_le h (pow_mono g)))

pub pow_le_back : {i j : ℕ} → 2 ^ i ≤ 2 ^ j → i ≤ j
pow_le_back {i} {j} h = le_of_suc-le-suc (lt_of_not-le (λ (g : j < i). not-le_of_lt (pow-lt g) h))
