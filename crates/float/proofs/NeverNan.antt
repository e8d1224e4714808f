-- A difference of finite floats is no NaN, and so is a sum of two squares, which is not below 0 either.
use mathlib.Core.Path.{◌≡◌, refl, sym}
use mathlib.Core.Bool.{Bool, true, false, not, cond, ◌&&◌, beq, true≢false}
use Prim.Native.Nat.{ℕ, zero, suc, ◌+◌, ◌-◌, ◌*◌, ◌^◌, zero-le}
use native.Mathlib.Nat.{zero-mul}
use lib.Dec.{ltb}
use borrow.Author.Tests.{le-ltb}
use lib.Ieee.{Float, nan, inf, fin, is_nan, up, down, Format, low, odd, units, round, sum, add, sub, neg, mul, lt, of_bits, prec, emax}
use lib.Ieee.Scale.{finite}
use lib.Ieee.Fits.{round_is}
use Rattle.float.specs.Constants.{+0}
use Rattle.float.proofs.NotANumber.{nan_mul, nan_add, add_nan, nan_below}

-- no NaN, and the sign is clear
abbrev pub plus : Float → Bool
plus nan = false
plus (inf s) = not s
plus (fin s m e) = not s

cond_nan : (b : Bool) (x y : Float) → is_nan x ≡ false → is_nan y ≡ false → is_nan (cond b x y) ≡ false
cond_nan true x y p q = p
cond_nan false x y p q = q

cond_plus : (b : Bool) (x y : Float) → plus x ≡ true → plus y ≡ true → plus (cond b x y) ≡ true
cond_plus true x y p q = p
cond_plus false x y p q = q

odd_nan : (d : ℕ) (s : Bool) (q k l : ℕ) → is_nan (odd d s q k l) ≡ false
unfolding odd is_nan
odd_nan d s zero k l = refl
odd_nan d s (suc q) k l = refl

odd_plus : (d q k l : ℕ) → plus (odd d false q k l) ≡ true
unfolding odd
odd_plus d zero k l = refl
odd_plus d (suc q) k l = refl

units_nan : (f : Format) (s : Bool) (q k : ℕ) → is_nan (units f s q k) ≡ false
unfolding units is_nan
units_nan f s q k = cond_nan (ltb (q * 2 ^ k) (2 ^ (low f + suc (emax f)))) (odd (suc (prec f)) s q k (low f)) (inf s) (odd_nan (suc (prec f)) s q k (low f)) refl

pub units_plus : (f : Format) (q k : ℕ) → plus (units f false q k) ≡ true
unfolding units
units_plus f q k = cond_plus (ltb (q * 2 ^ k) (2 ^ (low f + suc (emax f)))) (odd (suc (prec f)) false q k (low f)) (inf false) (odd_plus (suc (prec f)) q k (low f)) refl

round_nan : (f : Format) (s : Bool) (a b : ℕ) → is_nan (round f s a b) ≡ false
round_nan f s a b = rw (round_is f s a b) (units_nan f s _ _)

round_plus : (f : Format) (a b : ℕ) → plus (round f false a b) ≡ true
round_plus f a b = rw (round_is f false a b) (units_plus f _ _)

sum_nan : (f : Format) (s : Bool) (a : ℕ) (t : Bool) (b c : ℕ) → is_nan (sum f s a t b c) ≡ false
unfolding sum
sum_nan f s a t b c =
    cond_nan (beq s t) (round f s (a + b) c) (cond (ltb a b) (round f t (b - a) c) (round f (s && ltb b a) (a - b) c)) (round_nan f s (a + b) c)
    (cond_nan (ltb a b) (round f t (b - a) c) (round f (s && ltb b a) (a - b) c) (round_nan f t (b - a) c) (round_nan f (s && ltb b a) (a - b) c))

pub sub_nan : (f : Format) (x y : Float) → finite x ≡ true → finite y ≡ true → is_nan (sub f x y) ≡ false
unfolding sub add neg sum
sub_nan f nan y p q = absurd (true≢false (sym p))
sub_nan f (inf s) y p q = absurd (true≢false (sym p))
sub_nan f (fin s m e) nan p q = absurd (true≢false (sym q))
sub_nan f (fin s m e) (inf t) p q = absurd (true≢false (sym q))
sub_nan f (fin s m e) (fin t n d) p q = sum_nan f s (m * up e * down d) (not t) (n * up d * down e) (down e * down d)

square_plus : (f : Format) (x : Float) → is_nan x ≡ false → plus (mul f x x) ≡ true
unfolding mul is_nan
square_plus f nan h = absurd (true≢false h)
square_plus f (inf true) h = refl
square_plus f (inf false) h = refl
square_plus f (fin true m e) h = round_plus f (m * up e * (m * up e)) (down e * down e)
square_plus f (fin false m e) h = round_plus f (m * up e * (m * up e)) (down e * down e)

add_plus : (f : Format) (x y : Float) → plus x ≡ true → plus y ≡ true → plus (add f x y) ≡ true
unfolding add sum
add_plus f nan y p q = absurd (true≢false (sym p))
add_plus f (inf s) nan p q = absurd (true≢false (sym q))
add_plus f (inf true) (inf t) p q = absurd (true≢false (sym p))
add_plus f (inf false) (inf true) p q = absurd (true≢false (sym q))
add_plus f (inf false) (inf false) p q = refl
add_plus f (inf s) (fin t n d) p q = p
add_plus f (fin s m e) nan p q = absurd (true≢false (sym q))
add_plus f (fin s m e) (inf t) p q = q
add_plus f (fin true m e) (fin t n d) p q = absurd (true≢false (sym p))
add_plus f (fin false m e) (fin true n d) p q = absurd (true≢false (sym q))
add_plus f (fin false m e) (fin false n d) p q = round_plus f (m * up e * down d + n * up d * down e) (down e * down d)

plus_nan : (x : Float) → plus x ≡ true → is_nan x ≡ false
unfolding is_nan
plus_nan nan p = absurd (true≢false (sym p))
plus_nan (inf s) p = refl
plus_nan (fin s m e) p = refl

-- the two in one
squares_plus : (f : Format) (x y : Float) → is_nan x ≡ false → is_nan y ≡ false → plus (add f (mul f x x) (mul f y y)) ≡ true
squares_plus f x y p q = add_plus f (mul f x x) (mul f y y) (square_plus f x p) (square_plus f y q)

pub squares_nan : (f : Format) (x y : Float) → is_nan x ≡ false → is_nan y ≡ false → is_nan (add f (mul f x x) (mul f y y)) ≡ false
squares_nan f x y p q = plus_nan (add f (mul f x x) (mul f y y)) (squares_plus f x y p q)

-- ---- not below 0

pub plus_not_negative : (x : Float) → plus x ≡ true → lt x +0 ≡ false
unfolding lt of_bits
plus_not_negative nan p = refl
plus_not_negative (inf true) p = absurd (true≢false (sym p))
plus_not_negative (inf false) p = refl
plus_not_negative (fin true m e) p = absurd (true≢false (sym p))
plus_not_negative (fin false m e) p = le-ltb (m * up e * 1) (0 * down e) (rw (zero-mul (down e)) zero-le)

pub squares_not_negative : (f : Format) (x y : Float) → lt (add f (mul f x x) (mul f y y)) +0 ≡ false
unfolding is_nan
squares_not_negative f x y = go (is_nan x) (is_nan y) refl refl
  where
    is_the_nan : (x : Float) → is_nan x ≡ true → x ≡ nan
    is_the_nan nan p = refl
    is_the_nan (inf s) p = absurd (true≢false (sym p))
    is_the_nan (fin s m e) p = absurd (true≢false (sym p))

    go : (a b : Bool) → is_nan x ≡ a → is_nan y ≡ b → lt (add f (mul f x x) (mul f y y)) +0 ≡ false
    go true b p q = rw (is_the_nan x p, nan_mul f nan, nan_add f (mul f y y)) (nan_below +0)
    go false true p q = rw (is_the_nan y q, nan_mul f nan, add_nan f (mul f x x)) (nan_below +0)
    go false false p q = plus_not_negative (add f (mul f x x) (mul f y y)) (squares_plus f x y p q)
