-- The difference and the remainder of two multiples of c are multiples of c.
use mathlib.Core.Path.{◌≡◌, ap}
use Prim.Native.Nat.{ℕ, zero, suc, ◌+◌, ◌-◌, ◌*◌, ◌/◌, ◌%◌}
use native.Mathlib.Nat.{zero-lt-suc, zero-mul, mul-zero, mul_comm, mul-sub, mul-lt-mul_of_pos_right, mod-zero, mod-lt, div-add-mod'}
use native.Mathlib.Omega.{arith}
use lib.Arith.{digits_mod}

pub sub_mul : (a b c : ℕ) → (a - b) * c ≡ a * c - b * c
sub_mul a b c = rw (mul_comm (a - b) c, mul-sub, mul_comm c a, mul_comm c b)

pub mod_mul : (a b c : ℕ) → a * c % (b * c) ≡ a % b * c
mod_mul a zero c = simp (zero-mul, mod-zero)
mod_mul a (suc b) zero = simp mul-zero
mod_mul a (suc b) (suc c) =
    let n = suc b in
    let k = suc c in
    let e : a * k ≡ a / n * (n * k) + a % n * k = omega (arith, ap (λ (x : ℕ). x * k) (div-add-mod' a n)) in
    rw e (digits_mod (a / n) (mul-lt-mul_of_pos_right (mod-lt a (zero-lt-suc b)) (zero-lt-suc c)))
