-- The laws of signs: the opposite of an opposite, of a rounded number and of a product, for any format.
use mathlib.Core.Path.{◌≡◌, refl, ap}
use mathlib.Core.Bool.{Bool, true, false, not, cond}
use Prim.Native.Nat.{ℕ, zero, suc, ◌+◌, ◌*◌, ◌^◌}
use lib.Dec.{eqb, ltb}
use lib.Ieee.{Float, Format, nan, inf, fin, neg, mul, round, units, odd, unlike, low, emax, prec}

pub neg_neg : (x : Float) → neg (neg x) ≡ x
unfolding neg
neg_neg nan = refl
neg_neg (inf true) = refl
neg_neg (inf false) = refl
neg_neg (fin true m e) = refl
neg_neg (fin false m e) = refl

neg_odd : (d : ℕ) (s : Bool) (q k l : ℕ) → neg (odd d s q k l) ≡ odd d (not s) q k l
unfolding neg odd
neg_odd d s zero k l = refl
neg_odd d s (suc q) k l = refl

neg_cond : (b : Bool) (x y x' y' : Float) → neg x ≡ x' → neg y ≡ y' → neg (cond b x y) ≡ cond b x' y'
neg_cond true x y x' y' p q = p
neg_cond false x y x' y' p q = q

neg_packed : (f : Format) (s : Bool) (q k : ℕ) → neg (units f s q k) ≡ units f (not s) q k
unfolding neg units
neg_packed f s q k =
    neg_cond (ltb (q * 2 ^ k) (2 ^ (low f + suc (emax f)))) (odd (suc (prec f)) s q k (low f)) (inf s)
    (odd (suc (prec f)) (not s) q k (low f)) (inf (not s)) (neg_odd (suc (prec f)) s q k (low f)) refl

pub neg_round : (f : Format) (s : Bool) (a b : ℕ) → neg (round f s a b) ≡ round f (not s) a b
unfolding round
neg_round f s a b = neg_packed f s _ _

unlike_not : (s t : Bool) → not (unlike s t) ≡ unlike (not s) t
unlike_not true true = refl
unlike_not true false = refl
unlike_not false true = refl
unlike_not false false = refl

pub neg_mul : (f : Format) (x y : Float) → neg (mul f x y) ≡ mul f (neg x) y
unfolding neg mul
neg_mul f nan y = refl
neg_mul f (inf s) nan = refl
neg_mul f (inf s) (inf t) = ap inf (unlike_not s t)
neg_mul f (inf s) (fin t n d) = neg_cond (eqb n 0) nan (inf (unlike s t)) nan (inf (unlike (not s) t)) refl (ap inf (unlike_not s t))
neg_mul f (fin s m e) nan = refl
neg_mul f (fin s m e) (inf t) = neg_cond (eqb m 0) nan (inf (unlike s t)) nan (inf (unlike (not s) t)) refl (ap inf (unlike_not s t))
neg_mul f (fin s m e) (fin t n d) = rw (neg_round, unlike_not)
