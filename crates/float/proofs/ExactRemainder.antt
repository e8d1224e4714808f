-- The remainder of two numbers is exact.
use Prim.Native.Nat.{ℕ, ◌%◌, ◌^◌, ◌<◌}
use native.Mathlib.Nat.{le_of_lt, mod-le, mod-lt}
use Rattle.float.proofs.Multiples.{mod_mul}
use Rattle.float.proofs.Representable.{Representable, representable_below_both}

pub exact_remainder : {p x y : ℕ} → Representable p x → Representable p y → 0 < y → Representable p (x % y)
exact_remainder {x = x} {y} r s h = representable_below_both r s (mod-le x y) (le_of_lt (mod-lt x h))
    (λ a b i e f. (a % b, rw (e, f) (mod_mul a b (2 ^ i))))
