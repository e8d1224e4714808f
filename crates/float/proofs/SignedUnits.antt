-- The value of a finite f64 as an integer of units: its sign and its number of units, which is its size.
use mathlib.Core.Path.{◌≡◌, refl}
use mathlib.Core.Bool.{Bool, true, false, cond}
use Prim.Native.Nat.{ℕ, zero, suc}
use lib.IntN.{nat_abs}
use lib.Ieee.{Float, binary64}
use Rattle.float.specs.Sign.{negative}
use Rattle.float.specs.Units.{unit_count, signed, in_units}
use Rattle.float.proofs.IntegerDifference.{Difference, difference_pos, difference_neg}
use Rattle.float.proofs.Units.{HasUnits, units_sign, units_count}

pub units_signed : {x : Float} {s : Bool} {a : ℕ} → HasUnits binary64 x s a → in_units x ≡ signed s a
unfolding in_units
units_signed v = rw (units_sign v, units_count v)

-- as a difference: of its size and 0, or of 0 and its size
pub difference_units : {x : Float} {s : Bool} {a : ℕ} → HasUnits binary64 x s a → Difference (in_units x) (cond s 0 a) (cond s a 0)
difference_units {s = s} {a} v = rw (units_signed v) (go s)
  where
    go : (s : Bool) → Difference (signed s a) (cond s 0 a) (cond s a 0)
    go true = difference_neg (difference_pos a)
    go false = difference_pos a

pub abs_units : (x : Float) → nat_abs (in_units x) ≡ unit_count binary64 x
unfolding in_units
abs_units x = go (negative x) (unit_count binary64 x)
  where
    go : (s : Bool) (a : ℕ) → nat_abs (signed s a) ≡ a
    go false a = refl
    go true zero = refl
    go true (suc a) = refl
