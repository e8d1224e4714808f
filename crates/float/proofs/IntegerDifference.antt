-- An integer as a difference of two natural numbers, so that facts about sums of integers become linear facts about natural numbers.
use mathlib.Core.Path.{◌≡◌, refl}
use mathlib.Core.Bool.{Bool, true, false, not, cond}
use Prim.Native.Nat.{ℕ, zero, suc, ◌+◌, ◌-◌, ◌*◌, ◌≤◌, ◌<◌}
use native.Mathlib.Nat.{add-mul}
use native.Mathlib.Omega.{arith}
use lib.IntN.{ℤ, pos, negsuc, neg_ℤ, sub_ℕ, nat_abs, ◌+ℤ◌, ◌-ℤ◌, ◌*ℤ◌}
use lib.Dec.{T, ltb, ltb→lt, nltb→le}

-- z is a - b, by z's sign
abbrev pub IsDifference : ℤ → ℕ → ℕ → Type 0
IsDifference (pos n) a b = a ≡ b + n
IsDifference (negsuc n) a b = b ≡ a + suc n

pub record Difference (z : ℤ) (a b : ℕ) : Type 0 where
  pub is : IsDifference z a b

sub_is : (x y a b : ℕ) → x + b ≡ a + y → IsDifference (sub_ℕ x y) a b
sub_is x y a b h = go (ltb x y) (ltb→lt x y) (nltb→le x y)
  where
    go : (t : Bool) → (T t → x < y) → (T (not t) → y ≤ x) → IsDifference (cond t (negsuc (y - suc x)) (pos (x - y))) a b
    go true p q = omega (arith, p tt)
    go false p q = omega (arith, q tt)

neg_is : (z : ℤ) (a b : ℕ) → IsDifference z a b → IsDifference (neg_ℤ z) b a
neg_is (pos zero) a b h = omega arith
neg_is (pos (suc n)) a b h = h
neg_is (negsuc n) a b h = h

pub difference_of : (a b : ℕ) → Difference (sub_ℕ a b) a b
difference_of a b = record { is = sub_is a b a b refl }

pub difference_neg : {z : ℤ} {a b : ℕ} → Difference z a b → Difference (neg_ℤ z) b a
difference_neg {z} {a} {b} h = record { is = neg_is z a b h.is }

pub difference_add : {y z : ℤ} {a b c d : ℕ} → Difference y a b → Difference z c d → Difference (y +ℤ z) (a + c) (b + d)
difference_add {y} {z} {a} {b} {c} {d} p q = record { is = go y z p.is q.is }
  where
    go : (y z : ℤ) → IsDifference y a b → IsDifference z c d → IsDifference (y +ℤ z) (a + c) (b + d)
    go (pos m) (pos n) h k = omega arith
    go (pos m) (negsuc n) h k = sub_is m (suc n) (a + c) (b + d) (omega arith)
    go (negsuc m) (pos n) h k = sub_is n (suc m) (a + c) (b + d) (omega arith)
    go (negsuc m) (negsuc n) h k = omega arith

pub difference_sub : {y z : ℤ} {a b c d : ℕ} → Difference y a b → Difference z c d → Difference (y -ℤ z) (a + d) (b + c)
difference_sub p q = difference_add p (difference_neg q)

pub difference_mul : {z : ℤ} {a b : ℕ} (n : ℕ) → Difference z a b → Difference (z *ℤ pos n) (a * n) (b * n)
difference_mul {z} {a} {b} n p = record { is = go z p.is }
  where
    go : (z : ℤ) → IsDifference z a b → IsDifference (z *ℤ pos n) (a * n) (b * n)
    go (pos m) h = rw h (add-mul b m n)
    go (negsuc m) h = neg_is (pos (suc m * n)) (b * n) (a * n) (rw h (add-mul a (suc m) n))

pub difference_pos : (n : ℕ) → Difference (pos n) n 0
difference_pos n = record { is = omega arith }

-- its size is at most e where a and b are within e of each other
pub difference_abs : {z : ℤ} {a b e : ℕ} → Difference z a b → a ≤ b + e → b ≤ a + e → nat_abs z ≤ e
difference_abs {z} {a} {b} {e} p h k = go z p.is
  where
    go : (z : ℤ) → IsDifference z a b → nat_abs z ≤ e
    go (pos n) d = omega arith
    go (negsuc n) d = omega arith
