-- Let t be the whole number nearest to the root of n. Of all numbers of 53 digits, t * 2 ^ k is nearest to the root of n * 4 ^ k: the root is on its side of
-- the midpoint with any other.
use Rattle.std.proofs.Common.{◌≡◌, ℕ, suc, ◌+◌, ◌-◌, ◌*◌, ◌^◌, ◌<◌, ◌≤◌, inl, inr, zero-le, le_trans, le_of_eq, lt_of_lt_of_le, lt_of_le_of_lt, le_of_lt, mul-le-mul_right, mul-le-mul, lt_of_mul-lt-mul_right, eq-or-lt_of_le, mul-le-mul_left, mul-lt-mul_of_pos_right, mul-pos, lt_of_not-le, arith, pow_pos}
use native.Mathlib.Decide.{dec_le}
use Rattle.float.proofs.Representable.{Representable}
use Rattle.float.proofs.Spacing.{spaced}
use Rattle.root.specs.Nearest.{NearestWhole}
use Rattle.root.proofs.RootUnits.{four_pow}

-- ---- with p = 2 ^ k: the square of s against 4 * n * p * p, for an s that is above or below u * p
module _ (n s u p : ℕ) (P : 0 < p) where
  apart : u * p * (u * p) ≡ u * u * (p * p)
  apart = omega arith

  fold : 4 * n * (p * p) ≡ 4 * (n * (p * p))
  fold = omega arith

  above_step : u * p ≤ s → 4 * n < u * u → 4 * (n * (p * p)) < s * s
  above_step h l = lt_of_lt_of_le (rw (apart, ← fold) (mul-lt-mul_of_pos_right l (mul-pos P P))) (mul-le-mul h h)

  below_step : s ≤ u * p → u * u < 4 * n → s * s < 4 * (n * (p * p))
  below_step h l = lt_of_le_of_lt (mul-le-mul h h) (rw (apart, ← fold) (mul-lt-mul_of_pos_right l (mul-pos P P)))

  before_step : s < u * p → u * u ≤ 4 * n → s * s < 4 * (n * (p * p))
  before_step h l =
      lt_of_lt_of_le (lt_of_le_of_lt (mul-le-mul_left s (le_of_lt h)) (mul-lt-mul_of_pos_right h (lt_of_le_of_lt zero-le h)))
      (rw (apart, ← fold) (mul-le-mul_right (p * p) l))

module _ (n t b k : ℕ) (v : NearestWhole n t) (lo : 2 ^ 52 ≤ t) (N : 2 ^ 52 * 2 ^ 52 ≤ n) (r : Representable 53 b) where
  -- numbers of 53 digits are multiples of 2 ^ k from 2 ^ (52 + k) on
  next_up : t * 2 ^ k < b → (2 * t + 1) * 2 ^ k ≤ t * 2 ^ k + b
  next_up h =
      let m = spaced k r (le_trans (mul-le-mul_right (2 ^ k) lo) (le_of_lt h)) in
      let l : t < m.0 = lt_of_mul-lt-mul_right (2 ^ k) (rw m.1 at h) in
      steps m.0 (2 ^ k) m.1 (mul-le-mul_right (2 ^ k) l)
    where
      steps : (c p : ℕ) → b ≡ c * p → suc t * p ≤ c * p → (2 * t + 1) * p ≤ t * p + b
      steps c p e h = omega arith

  next_down : (d : ℕ) → t ≡ suc d → 2 ^ 52 ≤ d → b < t * 2 ^ k → t * 2 ^ k + b ≤ (2 * d + 1) * 2 ^ k
  next_down d e l h = elim (dec_le (2 ^ 52 * 2 ^ k) b) [
    | yes g ↦
        let m = spaced k r g in
        let c : m.0 < suc d = lt_of_mul-lt-mul_right (2 ^ k) (rw (m.1, e) at h) in
        steps m.0 (2 ^ k) (le_of_eq m.1) (mul-le-mul_right (2 ^ k) c)
    | no g ↦ steps (2 ^ 52) (2 ^ k) (le_of_lt (lt_of_not-le g)) (mul-le-mul_right (2 ^ k) (omega arith))
  ]
    where
      steps : (c p : ℕ) → b ≤ c * p → suc c * p ≤ suc d * p → t * p + b ≤ (2 * d + 1) * p
      steps c p h l = rw e (omega arith)

  pub below_midpoint : t * 2 ^ k < b → 4 * (n * 4 ^ k) < (t * 2 ^ k + b) * (t * 2 ^ k + b)
  below_midpoint h = rw (four_pow k) (above_step n (t * 2 ^ k + b) (2 * t + 1) (2 ^ k) (pow_pos k) (next_up h) (omega (arith, v.below)))

  -- at t = 2 ^ 52 the numbers below are closer together, but then the root is not below t
  pub above_midpoint : b < t * 2 ^ k → (t * 2 ^ k + b) * (t * 2 ^ k + b) < 4 * (n * 4 ^ k)
  above_midpoint h = rw (four_pow k) (elim (eq-or-lt_of_le lo) [
    | inl e ↦ before_step n (t * 2 ^ k + b) (2 * t) (2 ^ k) (pow_pos k) (twice (2 ^ k) h) (rw (← e) (omega arith))
    | inr l ↦
        let e : t ≡ suc (t - 1) = omega arith in
        below_step n (t * 2 ^ k + b) (2 * (t - 1) + 1) (2 ^ k) (pow_pos k) (next_down (t - 1) e (omega arith) h) (square (t - 1) e)
  ])
    where
      twice : (p : ℕ) → b < t * p → t * p + b < 2 * t * p
      twice p h = omega arith

      square : (d : ℕ) → t ≡ suc d → (2 * d + 1) * (2 * d + 1) < 4 * n
      square d e = let a : suc d * suc d < n + suc d = rw e at v.above in omega arith
