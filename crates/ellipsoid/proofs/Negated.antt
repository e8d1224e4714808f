-- Our questions are the opposites of the source's negated ones, for every float, a NaN too: of two finite numbers, one is at most the other exactly where it is not above it.
use mathlib.Core.Path.{◌≡◌, refl, sym, ◌∙◌}
use mathlib.Core.Bool.{Bool, true, false, not, ◌&&◌, ◌||◌, or_comm}
use Prim.Native.Nat.{ℕ, ◌+◌, ◌*◌}
use native.Mathlib.Omega.{arith}
use borrow.Author.Tests.{ltb-true, ltb-false, eqb-true, eqb-false}
use lib.Dec.{T, ltb, eqb}
use lib.Ieee.{Float, nan, inf, fin, up, down, below, level, lt, eq, le, of_bits}
use lib.Ieee.Scale.{finite}
use Rattle.float.specs.Constants.{+0, one}

-- ---- numbers by their signs and sizes

-- of one sign; q says whether the sizes are equal
alike : (a b : ℕ) (q : Bool) → (q ≡ true → a ≡ b) → (q ≡ false → a ≡ b → ⊥) → (ltb a b || q && true) ≡ not (ltb b a)
alike a b q same other = go (ltb a b) q (ltb b a) refl refl refl
  where
    go : (p r o : Bool) → p ≡ ltb a b → r ≡ q → o ≡ ltb b a → (p || r && true) ≡ not o
    go true r false e f g = refl
    go true r true e f g = absurd (omega (arith, ltb-true a b (sym e), ltb-true b a (sym g)))
    go false true false e f g = refl
    go false true true e f g = absurd (omega (arith, same (sym f), ltb-true b a (sym g)))
    go false false true e f g = refl
    go false false false e f g = absurd (other (sym f) (omega (arith, ltb-false a b (sym e), ltb-false b a (sym g))))

-- a number with the sign + is at most one with the sign - only where both are 0
above_below : (a b : ℕ) → (eqb a b && eqb a 0) ≡ not (ltb 0 (b + a))
above_below a b = go (eqb a b) (eqb a 0) (ltb 0 (b + a)) refl refl refl
  where
    go : (p q o : Bool) → p ≡ eqb a b → q ≡ eqb a 0 → o ≡ ltb 0 (b + a) → (p && q) ≡ not o
    go true true false e f g = refl
    go true true true e f g = absurd (omega (arith, eqb-true a b (sym e), eqb-true a 0 (sym f), ltb-true 0 (b + a) (sym g)))
    go true false true e f g = refl
    go true false false e f g = absurd (eqb-false a 0 (sym f) (omega (arith, ltb-false 0 (b + a) (sym g))))
    go false q true e f g = refl
    go false q false e f g = absurd (eqb-false a b (sym e) (omega (arith, ltb-false 0 (b + a) (sym g))))

-- a number with the sign - is always at most one with the sign +
below_above : (a b : ℕ) → (ltb 0 (a + b) || eqb a b && eqb a 0) ≡ true
below_above a b = go (ltb 0 (a + b)) (eqb a b) (eqb a 0) refl refl refl
  where
    go : (p q o : Bool) → p ≡ ltb 0 (a + b) → q ≡ eqb a b → o ≡ eqb a 0 → (p || q && o) ≡ true
    go true q o e f g = refl
    go false true true e f g = refl
    go false true false e f g = absurd (eqb-false a 0 (sym g) (omega (arith, ltb-false 0 (a + b) (sym e))))
    go false false o e f g = absurd (eqb-false a b (sym f) (omega (arith, ltb-false 0 (a + b) (sym e))))

below_or_level : (s t : Bool) (a b : ℕ) → (below s a t b || level s a t b) ≡ not (below t b s a)
below_or_level false false a b = alike a b (eqb a b) (eqb-true a b) (eqb-false a b)
below_or_level false true a b = above_below a b
below_or_level true false a b = below_above a b
below_or_level true true a b = alike b a (eqb a b) (λ h. sym (eqb-true a b h)) (λ h e. eqb-false a b h (sym e))

-- ---- floats
at_most : (x c : Float) → T (finite x) → T (finite c) → le x c ≡ not (lt c x)
unfolding le lt eq
at_most nan c h k = absurd h
at_most (inf s) c h k = absurd h
at_most (fin s m e) nan h k = absurd k
at_most (fin s m e) (inf t) h k = absurd k
at_most (fin s m e) (fin t n d) h k = below_or_level s t (m * up e * down d) (n * up d * down e)

-- not finite, or at most c: not a finite number above c
pub not_above : (x c : Float) → T (finite c) → (not (finite x) || le x c) ≡ not (finite x && lt c x)
not_above nan c k = refl
not_above (inf s) c k = refl
not_above (fin s m e) c k = at_most (fin s m e) c tt k

-- the same, asked in the other order
pub not_above_first : (x c : Float) → T (finite c) → (le x c || not (finite x)) ≡ not (finite x && lt c x)
not_above_first x c k = or_comm (le x c) (not (finite x)) ∙ not_above x c k

-- what lies between two finite numbers is finite
pub between_finite : (x low high : Float) → T (finite low) → T (finite high) → (finite x && (le low x && lt x high)) ≡ (le low x && lt x high)
unfolding le lt eq
between_finite x nan high h k = absurd h
between_finite x (inf t) high h k = absurd h
between_finite x (fin t n d) nan h k = absurd k
between_finite x (fin t n d) (inf u) h k = absurd k
between_finite nan (fin t n d) (fin u o g) h k = refl
between_finite (inf true) (fin t n d) (fin u o g) h k = refl
between_finite (inf false) (fin t n d) (fin u o g) h k = refl
between_finite (fin s m e) (fin t n d) (fin u o g) h k = refl

pub zero_finite : T (finite +0)
unfolding of_bits
zero_finite = tt

pub one_finite : T (finite one)
unfolding of_bits
one_finite = tt
