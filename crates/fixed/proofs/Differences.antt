-- A whole number less another, and one more.
use mathlib.Core.Path.{◌≡◌, sym, ◌∙◌, ap}
use Prim.Native.Nat.{ℕ, ◌+◌}
use lib.IntN.{ℤ, pos, neg_ℤ, ◌+ℤ◌, ◌-ℤ◌, +ℤ_assoc, +ℤ_comm}

pub one_more : (a b : ℕ) → (pos a -ℤ pos b) +ℤ pos 1 ≡ pos (a + 1) -ℤ pos b
one_more a b =
    +ℤ_assoc (pos a) (neg_ℤ (pos b)) (pos 1)
    ∙ ap (λ (z : ℤ). pos a +ℤ z) (+ℤ_comm (neg_ℤ (pos b)) (pos 1))
    ∙ sym (+ℤ_assoc (pos a) (pos 1) (neg_ℤ (pos b)))
