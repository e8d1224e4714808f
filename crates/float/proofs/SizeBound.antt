-- A float of no larger size than b lies between -b and b.
use mathlib.Core.Path.{sym}
use mathlib.Core.Logic.{inl, inr}
use mathlib.Core.Bool.{Bool, true, false, ◌||◌}
use Prim.Native.Nat.{ℕ, ◌+◌, ◌≤◌}
use native.Mathlib.Nat.{eq-zero-or-pos, eq-or-lt_of_le}
use native.Mathlib.Omega.{arith}
use lib.Dec.{T}
use lib.Ieee.{Float, Format, below, level, le}
use borrow.Author.Tests.{lt-ltb, le-ltb, eq-eqb}
use Rattle.float.proofs.Units.{HasUnits}
use Rattle.float.proofs.Comparison.{le_units}

-- a negative number is at most a positive one, zeros too
opposite_le : (a b : ℕ) → T (below true a false b || level true a false b)
opposite_le a b = elim (eq-zero-or-pos (a + b)) [
  | inl z ↦ rw (le-ltb 0 (a + b) (omega arith), eq-eqb a b (omega arith), eq-eqb a 0 (omega arith)) tt
  | inr h ↦ rw (lt-ltb 0 (a + b) h) tt
]

module _ {f : Format} {x y : Float} {s : Bool} {a b : ℕ} where
  pub le_positive : HasUnits f x s a → HasUnits f y false b → a ≤ b → T (le x y)
  le_positive v w h = rw (le_units v w) (go s)
    where
      go : (s : Bool) → T (below s a false b || level s a false b)
      go true = opposite_le a b
      go false = elim (eq-or-lt_of_le h) [
        | inl e ↦ rw (le-ltb a b (omega arith), eq-eqb a b e) tt
        | inr l ↦ rw (lt-ltb a b l) tt
      ]

  pub negative_le : HasUnits f x true a → HasUnits f y s b → b ≤ a → T (le x y)
  negative_le v w h = rw (le_units v w) (go s)
    where
      go : (s : Bool) → T (below true a s b || level true a s b)
      go false = opposite_le a b
      go true = elim (eq-or-lt_of_le h) [
        | inl e ↦ rw (le-ltb b a (omega arith), eq-eqb a b (sym e)) tt
        | inr l ↦ rw (lt-ltb b a l) tt
      ]
