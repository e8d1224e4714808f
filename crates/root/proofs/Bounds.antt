-- The root is not rounded past an f64: if b * b is at most x, its root is at least b, and if x is at most b * b, at most b. And it never falls.
use Rattle.std.proofs.Common.{◌≡◌, ℕ, ◌+◌, ◌*◌, ◌^◌, ◌<◌, ◌≤◌, true, false, T, ◌≢◌, pos, sym, refl, ap, ◌∙◌, le_of_eq, lt_of_le_of_lt, le_of_lt, mul-le-mul_right, lt_of_not-le, arith, ltb→lt}
use native.Mathlib.Nat.{mul-lt-mul_of_pos_left}
use native.Mathlib.Decide.{dec_le}
use lib.Ieee.{Float, nan, inf, fin, binary64, fits}
use lib.Ieee.Positive.{positive, positive-finite}
use Rattle.float.specs.Sign.{negative}
use Rattle.float.specs.Units.{unit_count}
use Rattle.float.proofs.Units.{units_count, units_finite}
use Rattle.float.proofs.Finite.{Finite, finite_of}
use Rattle.float.proofs.SignedUnits.{units_signed}
use Rattle.root.specs.Root.{root}
use Rattle.root.specs.Nearest.{Nearer, to_lower, to_upper, Nearest}
use Rattle.root.proofs.Nearest.{root_nearest}

-- a smaller number has a smaller square
square_lt : (c d : ℕ) → c < d → c * c < d * d
square_lt c d h = lt_of_le_of_lt (mul-le-mul_right c (le_of_lt h)) (mul-lt-mul_of_pos_left h (omega arith))

-- twice b, squared
four_squares : (b : ℕ) → 2 * b * (2 * b) ≡ 4 * (b * b)
four_squares b = omega arith

-- r cannot be nearer to the root than b, if b lies between them
not_below : {w b r : ℕ} → b * b ≤ w → r < b → Nearer w (pos r) (pos b) → ⊥
not_below {w} {b} {r} h l (to_lower o n) = omega (arith, square_lt (r + b) (2 * b) (omega arith), four_squares b, n)
not_below {w} {b} {r} h l (to_upper o n) = omega (arith, ltb→lt b r o.lt)

not_above : {w b r : ℕ} → w ≤ b * b → b < r → Nearer w (pos r) (pos b) → ⊥
not_above {w} {b} {r} h l (to_lower o n) = omega (arith, ltb→lt r b o.lt)
not_above {w} {b} {r} h l (to_upper o n) = omega (arith, square_lt (2 * b) (r + b) (omega arith), four_squares b, n)

-- a positive float has no sign
unsigned : (x : Float) → T (positive x) → negative x ≡ false
unfolding negative
unsigned nan p = absurd p
unsigned (inf s) p = absurd p
unsigned (fin true m e) p = absurd p
unsigned (fin false m e) p = refl

module _ (x : Float) (held : T (fits binary64 x)) (above : T (positive x)) where
  near : Nearest x (root x)
  near = root_nearest x held above

  pub root_finite : Finite binary64 (root x) false (unit_count binary64 (root x))
  root_finite =
      rw (unsigned (root x) near.above_zero) at
      (finite_of binary64 (root x) near.held (positive-finite (root x) near.above_zero))

  -- against any other f64 of b units
  nearer_counts : {y : Float} {b : ℕ} → Finite binary64 y false b → unit_count binary64 (root x) ≢ b
      → Nearer (unit_count binary64 x * 2 ^ 1074) (pos (unit_count binary64 (root x))) (pos b)
  nearer_counts {y} q n =
      rw (units_signed root_finite.units, units_signed q.units) at
      (near.nearer y q.held (units_finite q.units) (λ e. n (sym (ap (unit_count binary64) e) ∙ units_count q.units)))

  pub root_at_least : {y : Float} {b : ℕ} → Finite binary64 y false b → b * b ≤ unit_count binary64 x * 2 ^ 1074 → b ≤ unit_count binary64 (root x)
  root_at_least {b = b} q h = elim (dec_le b (unit_count binary64 (root x))) [
    | yes l ↦ l
    | no n ↦ absurd (not_below h (lt_of_not-le n) (nearer_counts q (λ e. n (le_of_eq (sym e)))))
  ]

  pub root_at_most : {y : Float} {b : ℕ} → Finite binary64 y false b → unit_count binary64 x * 2 ^ 1074 ≤ b * b → unit_count binary64 (root x) ≤ b
  root_at_most {b = b} q h = elim (dec_le (unit_count binary64 (root x)) b) [
    | yes l ↦ l
    | no n ↦ absurd (not_above h (lt_of_not-le n) (nearer_counts q (λ e. n (le_of_eq e))))
  ]

-- ---- a root never falls

-- if s is below r, r cannot be nearer to the root of w and s to that of v, which is no less
not_crossed : {w v r s : ℕ} → s < r → w ≤ v → Nearer w (pos r) (pos s) → Nearer v (pos s) (pos r) → ⊥
not_crossed {r = r} {s} l h (to_lower o n) q = omega (arith, ltb→lt r s o.lt)
not_crossed {r = r} {s} l h (to_upper o n) (to_lower p m) = omega (arith, n, m)
not_crossed {r = r} {s} l h (to_upper o n) (to_upper p m) = omega (arith, ltb→lt r s p.lt)

pub root_rising : (x y : Float) → T (fits binary64 x) → T (fits binary64 y) → T (positive x) → T (positive y) → unit_count binary64 x ≤ unit_count binary64 y
    → unit_count binary64 (root x) ≤ unit_count binary64 (root y)
root_rising x y f g p q h =
    let r = unit_count binary64 (root x) in
    let s = unit_count binary64 (root y) in
    elim (dec_le r s) [
      | yes l ↦ l
      | no n ↦
          absurd
          (not_crossed (lt_of_not-le n) (mul-le-mul_right (2 ^ 1074) h)
          (nearer_counts x f p (root_finite y g q) (λ e. n (le_of_eq e)))
          (nearer_counts y g q (root_finite x f p) (λ e. n (le_of_eq (sym e)))))
    ]
