-- The two zeros: what equals 0 is one of them, their product with a number is one of them, and a number with its opposite gives +0.
use mathlib.Core.Path.{◌≡◌, refl, sym, ap, subst, ◌∙◌}
use mathlib.Core.Bool.{Bool, true, false, cond, beq, ◌&&◌, ◌||◌, and-false}
use Prim.Native.Nat.{ℕ, zero, suc, ◌-◌, ◌*◌, ◌<◌}
use native.Mathlib.Nat.{le_refl, zero-mul, zero-lt-suc, mul-pos, sub_self}
use native.Mathlib.Omega.{arith}
use lib.IntN.{pos}
use borrow.Author.Tests.{le-ltb}
use lib.Dec.{T, ltb, eqb, eqb→eq}
use lib.Ieee.{Float, nan, inf, fin, Format, binary32, binary64, fits, neg, sum, add, mul, round, eq, level, of_bits, unlike, up, down}
use lib.Ieee.Scale.{finite, round_same}
use lib.Ieee.Fits.{and_l, down_pos, up_pos}
use Rattle.float.specs.Constants.{+0}
use Rattle.float.specs.Sign.{negative}
use Rattle.float.proofs.Fits.{fits_zero}

-- 0 with the sign s
abbrev pub zero_of : Bool → Float
zero_of s = fin s 0 (pos 0)

-- equal numbers are of equal size
level_sizes : (s t : Bool) (a b : ℕ) → T (level s a t b) → a ≡ b
level_sizes s t a b h = eqb→eq a b (and_l (eqb a b) (beq s t || eqb a 0) h)

-- what equals 0 is one of them, by its sign
pub equals_zero : (f : Format) (x : Float) → T (fits f x) → eq x +0 ≡ true → x ≡ zero_of (negative x)
unfolding eq of_bits negative
equals_zero f nan t h = absurd (subst T (sym h) tt)
equals_zero f (inf s) t h = absurd (subst T (sym h) tt)
equals_zero f (fin s zero e) t h = ap (fin s 0) (fits_zero f s e t)
equals_zero f (fin s (suc m) e) t h =
    let z = level_sizes s false (suc m * up e * 1) (0 * down e) (subst T (sym h) tt) in
    absurd (omega (arith, z, zero-mul (down e), mul-pos (zero-lt-suc m) (up_pos e)))

round_zero : (f : Format) (s : Bool) (a d : ℕ) → a ≡ 0 → 0 < d → round f s a d ≡ zero_of s
unfolding round
round_zero f s a d z D = round_same f s a d 0 1 D (omega arith) (omega arith) ∙ go f
  where
    go : (f : Format) → round f s 0 1 ≡ zero_of s
    go binary32 = refl
    go binary64 = refl

-- a zero, or a NaN
pub data Vanished (x : Float) : Type 0 where
  a_zero : (s : Bool) → x ≡ zero_of s → Vanished x
  no_number : x ≡ nan → Vanished x

-- 0 times infinity is a NaN
pub zero_times : (f : Format) (s : Bool) (x : Float) → Vanished (mul f (zero_of s) x)
unfolding mul
zero_times f s nan = no_number refl
zero_times f s (inf t) = no_number refl
zero_times f s (fin t n d) =
    a_zero (unlike s t) (round_zero f (unlike s t) (0 * (n * up d)) (1 * down d) (zero-mul (n * up d)) (omega (arith, down_pos d)))

-- the difference of two equal sizes, whichever sign the other one has
vanishes : (f : Format) (s t : Bool) (a : ℕ) {d : ℕ} → 0 < d
    → cond (ltb a a) (round f t (a - a) d) (round f (s && ltb a a) (a - a) d) ≡ zero_of false
vanishes f s t a {d} D = rw (le-ltb a a (le_refl a), and-false s) (round_zero f false (a - a) d (sub_self a) D)

pub opposite_sum : (f : Format) (x : Float) → T (finite x) → add f x (neg x) ≡ zero_of false
unfolding add neg sum
opposite_sum f nan t = absurd t
opposite_sum f (inf s) t = absurd t
opposite_sum f (fin true m e) t = vanishes f true false (m * up e * down e) (mul-pos (down_pos e) (down_pos e))
opposite_sum f (fin false m e) t = vanishes f false true (m * up e * down e) (mul-pos (down_pos e) (down_pos e))
