-- What the comparisons with 0 and the exponent's field say of an f64 and its root.
use Rattle.std.proofs.Common.{◌≡◌, ℕ, zero, suc, ◌*◌, ◌/◌, ◌^◌, ◌<◌, Bool, true, false, not, ◌&&◌, ◌||◌, T, eqb, ℤ, sym, refl, ◌∙◌, ap₂, true≢false, zero-lt-suc, mul-pos, arith, lt→ltb, ltb-false, ltb-true, eqb-true, ◌+◌, ◌%◌, subst}
use mathlib.Core.Bool.{beq}
use lib.Count.{count_leading_zeros}
use lib.Ieee.{Float, nan, inf, fin, binary64, up, down, fits, lt, eq, div, is_nan, to_bits, of_bits}
use lib.Ieee.Fits.{up_pos}
use lib.Ieee.Positive.{positive}
use Rattle.float.specs.Constants.{+0}
use Rattle.root.specs.Root.{root}
use Rattle.root.proofs.Scaled.{Scaled, Small, fields_positive, scaled_normal, scaled_small}

pub never : {A : Type 0} → false ≡ true → A
never h = absurd (true≢false (sym h))

some_size : (m : ℕ) (e : ℤ) → 0 < suc m * up e
some_size m e = mul-pos (zero-lt-suc m) (up_pos e)

pub no_nan : (x : Float) → lt +0 x ≡ true → T (not (is_nan x))
unfolding lt is_nan of_bits
no_nan nan h = never h
no_nan (inf s) h = tt
no_nan (fin s m e) h = tt

-- above 0, and the field is not all ones
pub positive_finite : (x : Float) → lt +0 x ≡ true → (to_bits binary64 x / 2 ^ 52 ≡ 2047 → ⊥) → T (positive x)
unfolding lt of_bits to_bits
positive_finite nan h n = never h
positive_finite (inf true) h n = never h
positive_finite (inf false) h n = absurd (n refl)
positive_finite (fin true m e) h n = never h
positive_finite (fin false zero e) h n = let q = ltb-true (0 * down e) (0 * up e * 1) h in absurd (omega arith)
positive_finite (fin false (suc m) e) h n = lt→ltb 0 (suc m) (zero-lt-suc m)

-- a finite f64 above 0, by the tests that find it: subnormal if the field is 0, else normal
module _ (x : Float) (held : fits binary64 x ≡ true) (h : lt +0 x ≡ true) (n : to_bits binary64 x / 2 ^ 52 ≡ 2047 → ⊥) where
  pub root_of_small : to_bits binary64 x / 2 ^ 52 ≡ 0 → Small x (count_leading_zeros 64 (to_bits binary64 x))
  root_of_small = scaled_small x (subst T (sym held) tt) (positive_finite x h n)

  pub root_of_normal : (to_bits binary64 x / 2 ^ 52 ≡ 0 → ⊥) → Scaled x (to_bits binary64 x % 2 ^ 52 + 2 ^ 52) (to_bits binary64 x / 2 ^ 52 + 1073)
  root_of_normal f = scaled_normal x (subst T (sym held) tt) (positive_finite x h n) (omega arith)

-- above 0, and the field is all ones
pub root_of_infinity : (x : Float) → fits binary64 x ≡ true → lt +0 x ≡ true → to_bits binary64 x / 2 ^ 52 ≡ 2047 → x ≡ root x
unfolding lt of_bits root
root_of_infinity nan f h n = never h
root_of_infinity (inf true) f h n = never h
root_of_infinity (inf false) f h n = refl
root_of_infinity (fin true m e) f h n = never h
root_of_infinity (fin false zero e) f h n = refl
root_of_infinity (fin false (suc m) e) f h n = absurd (omega (arith, n, (fields_positive (fin false (suc m) e) (subst T (sym f) tt) (lt→ltb 0 (suc m) (zero-lt-suc m))).below))

and_left : (a b : Bool) → (a && b) ≡ true → a ≡ true
and_left true b h = refl
and_left false b h = h

pub root_of_zero : (x : Float) → eq x +0 ≡ true → x ≡ root x
unfolding eq root of_bits
root_of_zero nan h = never h
root_of_zero (inf s) h = never h
root_of_zero (fin s zero e) h = refl
root_of_zero (fin s (suc m) e) h =
    let q = eqb-true (suc m * up e * 1) (0 * down e) (and_left (eqb (suc m * up e * 1) (0 * down e)) (beq s false || eqb (suc m * up e * 1) 0) h) in
    absurd (omega (arith, some_size m e))

zeros_equal : (a b : ℕ) (c : Bool) → a ≡ 0 → b ≡ 0 → (eqb a b && (c || eqb a 0)) ≡ true
zeros_equal a b c p q = ap₂ (λ (x y : ℕ). eqb x y && (c || eqb x 0)) p q ∙ go c
  where
    go : (c : Bool) → (c || true) ≡ true
    go true = refl
    go false = refl

pub root_of_none : (x : Float) → lt +0 x ≡ false → eq x +0 ≡ false → div binary64 +0 +0 ≡ root x
unfolding lt eq root of_bits div
root_of_none nan h k = refl
root_of_none (inf true) h k = refl
root_of_none (inf false) h k = never (sym h)
root_of_none (fin s zero e) h k = never (sym k ∙ zeros_equal (0 * up e * 1) (0 * down e) (beq s false) (omega arith) (omega arith))
root_of_none (fin true (suc m) e) h k = refl
root_of_none (fin false (suc m) e) h k = let q = ltb-false (0 * down e) (suc m * up e * 1) h in absurd (omega (arith, some_size m e))
