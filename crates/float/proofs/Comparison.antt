-- Comparisons of floats are comparisons of their signs and units.
use mathlib.Core.Path.{◌≡◌, refl}
use mathlib.Core.Bool.{Bool, true, false, ◌||◌}
use Prim.Native.Nat.{ℕ, ◌+◌, ◌*◌, ◌<◌}
use native.Mathlib.Nat.{zero-mul}
use lib.Pow.{pow_pos}
use lib.Ieee.{Float, Format, low, up, down, below, level, lt, eq, le}
use Rattle.float.proofs.Units.{HasUnits}
use Rattle.float.proofs.CommonUnits.{ltb_common, eqb_common, add_common, both_units}

-- only the values of the two fractions count
module _ (x y a b : ℕ) {c w : ℕ} (C : 0 < c) (W : 0 < w) (p : x * c ≡ a * w) (q : y * c ≡ b * w) where
  nought : 0 * c ≡ 0 * w
  nought = rw (zero-mul c, zero-mul w)

  below_common : (s t : Bool) → below s x t y ≡ below s a t b
  below_common false false = ltb_common x y a b C W p q
  below_common false true = refl
  below_common true false = ltb_common 0 (x + y) 0 (a + b) C W nought (add_common x y a b C W p q)
  below_common true true = ltb_common y x b a C W q p

  level_common : (s t : Bool) → level s x t y ≡ level s a t b
  level_common s t = rw (eqb_common x y a b C W p q, eqb_common x 0 a 0 C W p nought)

pub lt_units : {f : Format} {x y : Float} {s t : Bool} {a b : ℕ} → HasUnits f x s a → HasUnits f y t b → lt x y ≡ below s a t b
unfolding lt
lt_units {f} {s = s} {t} {a} {b} v w = both_units (λ (x y : Float). lt x y ≡ below s a t b) v w
    (λ m n e d h.
    below_common (m * up e * down d) (n * up d * down e) a b (pow_pos (low f)) h.denominators_pos h.left_cross h.right_cross s t)

pub eq_units : {f : Format} {x y : Float} {s t : Bool} {a b : ℕ} → HasUnits f x s a → HasUnits f y t b → eq x y ≡ level s a t b
unfolding eq
eq_units {f} {s = s} {t} {a} {b} v w = both_units (λ (x y : Float). eq x y ≡ level s a t b) v w
    (λ m n e d h.
    level_common (m * up e * down d) (n * up d * down e) a b (pow_pos (low f)) h.denominators_pos h.left_cross h.right_cross s t)

pub le_units : {f : Format} {x y : Float} {s t : Bool} {a b : ℕ} → HasUnits f x s a → HasUnits f y t b
    → le x y ≡ (below s a t b || level s a t b)
unfolding le
le_units v w = rw (lt_units v w, eq_units v w)
