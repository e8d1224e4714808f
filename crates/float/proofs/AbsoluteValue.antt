-- The absolute value of a float is positive and has as many units.
use mathlib.Core.Bool.{Bool, true, false, cond}
use Prim.Native.Nat.{ℕ}
use lib.Ieee.{Float, Format, neg}
use Rattle.float.specs.Sign.{abs}
use Rattle.float.proofs.Units.{units_sign}
use Rattle.float.proofs.Finite.{Finite}
use Rattle.float.proofs.Negation.{neg_finite}

pub abs_finite : {f : Format} {x : Float} {s : Bool} {a : ℕ} → Finite f x s a → Finite f (abs x) false a
unfolding abs
abs_finite {f} {x} {s} {a} h = rw (units_sign h.units) (go s h)
  where
    go : (s : Bool) → Finite f x s a → Finite f (cond s (neg x) x) false a
    go true h = neg_finite h
    go false h = h
