-- x + y and y + x are the same float, a NaN too: the same fraction is rounded, and a sum of exactly 0 has the same sign.
use Prim.Native.Nat.{ℕ, ◌-◌, ◌*◌}
use mathlib.Core.Path.{◌≡◌, refl, sym, ap, ◌∙◌}
use mathlib.Core.Bool.{Bool, true, false, cond}
use native.Mathlib.Nat.{add_comm, mul_comm}
use native.Mathlib.Omega.{arith}
use borrow.Author.Tests.{ltb-true, ltb-false}
use lib.Dec.{ltb}
use lib.Ieee.{Float, nan, inf, fin, Format, up, down, round, sum, add}

-- -a + b and b + -a
sum_unlike : (f : Format) (a b c : ℕ) → sum f true a false b c ≡ sum f false b true a c
unfolding sum
sum_unlike f a b c = go (ltb a b) (ltb b a) refl refl
  where
    go : (p q : Bool) → p ≡ ltb a b → q ≡ ltb b a
        → cond p (round f false (b - a) c) (round f q (a - b) c) ≡ cond q (round f true (a - b) c) (round f false (b - a) c)
    go true true e g = absurd (omega (arith, ltb-true a b (sym e), ltb-true b a (sym g)))
    go true false e g = refl
    go false true e g = refl
    go false false e g = let same : a ≡ b = omega (arith, ltb-false a b (sym e), ltb-false b a (sym g)) in rw same

sum_commutes : (f : Format) (s t : Bool) (a b c : ℕ) → sum f s a t b c ≡ sum f t b s a c
unfolding sum
sum_commutes f true true a b c = ap (λ (n : ℕ). round f true n c) (add_comm a b)
sum_commutes f false false a b c = ap (λ (n : ℕ). round f false n c) (add_comm a b)
sum_commutes f true false a b c = sum_unlike f a b c
sum_commutes f false true a b c = sym (sum_unlike f b a c)

pub add_commutes : (f : Format) (x y : Float) → add f x y ≡ add f y x
unfolding add
add_commutes f nan nan = refl
add_commutes f nan (inf t) = refl
add_commutes f nan (fin t n d) = refl
add_commutes f (inf s) nan = refl
add_commutes f (inf true) (inf true) = refl
add_commutes f (inf true) (inf false) = refl
add_commutes f (inf false) (inf true) = refl
add_commutes f (inf false) (inf false) = refl
add_commutes f (inf s) (fin t n d) = refl
add_commutes f (fin s m e) nan = refl
add_commutes f (fin s m e) (inf t) = refl
add_commutes f (fin s m e) (fin t n d) =
    sum_commutes f s t (m * up e * down d) (n * up d * down e) (down e * down d)
    ∙ ap (λ (c : ℕ). sum f t (n * up d * down e) s (m * up e * down d) c) (mul_comm (down e) (down d))
