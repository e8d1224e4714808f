-- Sterbenz: the difference of two numbers within a factor of two of each other is exact.
use mathlib.Core.Path.{sym}
use Prim.Native.Nat.{ℕ, ◌-◌, ◌*◌, ◌^◌, ◌≤◌}
use native.Mathlib.Omega.{arith}
use Rattle.float.proofs.Multiples.{sub_mul}
use Rattle.float.proofs.Representable.{Representable, representable_below_both}

pub sterbenz : {p x y : ℕ} → Representable p x → Representable p y → y ≤ x → x ≤ 2 * y → Representable p (x - y)
sterbenz {x = x} {y} r s h l = representable_below_both r s (omega arith) (omega arith)
    (λ a b i e f. (a - b, rw (e, f) (sym (sub_mul a b (2 ^ i)))))
