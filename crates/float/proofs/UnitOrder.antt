-- The order of finite floats is the order of their values in units.
use mathlib.Core.Path.{◌≡◌, refl, subst}
use mathlib.Core.Bool.{Bool, true, false, ◌&&◌, ◌||◌, beq}
use Prim.Native.Nat.{ℕ, zero, suc, ◌+◌}
use native.Mathlib.Nat.{le_of_lt}
use native.Mathlib.Omega.{arith}
use lib.Dec.{T, eqb, ltb→lt, lt→ltb, le→leb, eqb→eq}
use lib.IntN.{ℤ, pos, negsuc}
use lib.Signed.{lt_z, le_z, ◌≤ℤ◌, ◌<ℤ◌, lt_z_yes, le_z_yes, ≤ℤ_refl}
use lib.Ieee.{Float, binary64, below, level, lt, le}
use Rattle.float.specs.Units.{signed, in_units}
use Rattle.float.proofs.Units.{HasUnits}
use Rattle.float.proofs.SignedUnits.{units_signed}
use Rattle.float.proofs.Comparison.{lt_units, le_units}

-- ---- of a sign and a size

below_signed : (s t : Bool) (a b : ℕ) → T (below s a t b) → T (lt_z (signed s a) (signed t b))
below_signed false false a b h = h
below_signed false true a b h = absurd h
below_signed true false zero b h = lt→ltb 0 b (omega (arith, ltb→lt 0 (0 + b) h))
below_signed true false (suc a) b h = tt
below_signed true true zero b h = absurd (omega (arith, ltb→lt b 0 h))
below_signed true true (suc a) zero h = tt
below_signed true true (suc a) (suc b) h = lt→ltb b a (omega (arith, ltb→lt (suc b) (suc a) h))

-- +0 and -0 are one number
level_signed : (s t : Bool) (a b : ℕ) → T (level s a t b) → signed s a ≡ signed t b
level_signed s t a b h = go (eqb a b) (eqb→eq a b) h
  where
    same : (s t : Bool) (a : ℕ) → T (beq s t || eqb a 0) → signed s a ≡ signed t a
    same true true a k = refl
    same true false a k = rw (eqb→eq a 0 k) refl
    same false true a k = rw (eqb→eq a 0 k) refl
    same false false a k = refl

    go : (p : Bool) → (T p → a ≡ b) → T (p && (beq s t || eqb a 0)) → signed s a ≡ signed t b
    go true e k = rw (← e tt) (same s t a k)
    go false e k = absurd k

lt_le : (a b : ℤ) → T (lt_z a b) → T (le_z a b)
lt_le (pos a) (pos b) h = le→leb a b (le_of_lt (ltb→lt a b h))
lt_le (pos a) (negsuc b) h = h
lt_le (negsuc a) (pos b) h = tt
lt_le (negsuc a) (negsuc b) h = le→leb b a (le_of_lt (ltb→lt b a h))

-- ---- of floats

module _ {x y : Float} {s t : Bool} {a b : ℕ} (v : HasUnits binary64 x s a) (w : HasUnits binary64 y t b) where
  pub lt_in_units : T (lt x y) → in_units x <ℤ in_units y
  lt_in_units h = rw (units_signed v, units_signed w) (lt_z_yes (below_signed s t a b (subst T (lt_units v w) h)))

  pub le_in_units : T (le x y) → in_units x ≤ℤ in_units y
  le_in_units h = rw (units_signed v, units_signed w) (go (below s a t b) (level s a t b) refl refl (subst T (le_units v w) h))
    where
      go : (p q : Bool) → p ≡ below s a t b → q ≡ level s a t b → T (p || q) → signed s a ≤ℤ signed t b
      go true q e f k = le_z_yes (lt_le (signed s a) (signed t b) (below_signed s t a b (subst T e tt)))
      go false true e f k = rw (level_signed s t a b (subst T f tt)) (≤ℤ_refl _)
      go false false e f k = absurd k
