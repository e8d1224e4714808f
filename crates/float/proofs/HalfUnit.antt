-- Rounding errs by at most half a unit of the last digit that is kept.
use mathlib.Core.Path.{◌≡◌}
use mathlib.Core.Bool.{not}
use Prim.Native.Nat.{ℕ, ◌+◌, ◌*◌, ◌/◌, ◌%◌, ◌^◌, ◌≤◌, ◌<◌, compare, Ordering}
use native.Mathlib.Nat.{le_refl, one-mul, mul-one, mul-pos, mul-le-mul_left, mul-le-mul_right, div-add-mod', mod-lt, div-lt_iff_lt-mul}
use native.Mathlib.Omega.{arith}
use lib.Dec.{T, is_le, compare_is_eq, leb→le, nleb→lt, eqb→eq}
use lib.Pow.{pow_pos, pow_mono}
use lib.Ieee.{nearest, size}
use lib.Ieee.Digits.{size-le}
use lib.Ieee.Nearest.{closest}
use lib.Ieee.Order.{drop, kept}
use Rattle.float.proofs.Near.{Near, near_widen}
use Rattle.float.proofs.Rounded.{rounded, rounded_whole}

-- by how twice the remainder compares with b
closest_half : (a : ℕ) {b : ℕ} → 0 < b → Near (2 * (closest a b * b)) (2 * a) b
closest_half a {b} B = go (compare (a % b * 2) b) (leb→le (a % b * 2) b) (nleb→lt (a % b * 2) b) (eqb→eq (a % b * 2) b)
  where
    near : (q r : ℕ) (o : Ordering) → r < b → (T (is_le o) → r * 2 ≤ b) → (T (not (is_le o)) → b < r * 2) → (T (compare_is_eq o) → r * 2 ≡ b)
        → Near (2 * (nearest q o * b)) (2 * (q * b + r)) b
    near q r Ordering.lt l le gt eq = omega (arith, le tt)
    near q r Ordering.eq l le gt eq = let t : q % 2 ≤ 1 = omega arith in omega (arith, eq tt, mul-le-mul_right b t)
    near q r Ordering.gt l le gt eq = omega (arith, gt tt)

    go : (o : Ordering) → (T (is_le o) → a % b * 2 ≤ b) → (T (not (is_le o)) → b < a % b * 2) → (T (compare_is_eq o) → a % b * 2 ≡ b)
        → Near (2 * (nearest (a / b) o * b)) (2 * a) b
    go o le gt eq = rw (div-add-mod' a b) at (near (a / b) (a % b) o (mod-lt a B) le gt eq)

-- the unit of the last digit is 2 ^ drop
pub rounded_half_step : (p n : ℕ) {d : ℕ} → 0 < d → Near (2 * (rounded p n d * d)) (2 * n) (d * 2 ^ drop p n d)
unfolding rounded
rounded_half_step p n {d} D = regroup (kept p n d) (2 ^ drop p n d) (closest_half n (mul-pos D (pow_pos (drop p n d))))
  where
    regroup : (q u : ℕ) → Near (2 * (q * (d * u))) (2 * n) (d * u) → Near (2 * (q * u * d)) (2 * n) (d * u)
    regroup q u h = omega arith

-- of a fraction below 2 ^ (p + k) that unit is at most 2 ^ k
pub rounded_half_unit : (p k : ℕ) {n d : ℕ} → 0 < d → n < 2 ^ (p + k) * d → Near (2 * (rounded p n d * d)) (2 * n) (d * 2 ^ k)
rounded_half_unit p k {n} {d} D h =
    let s : size (n / d) ≤ p + k = size-le (n / d) (p + k) ((div-lt_iff_lt-mul D).1 h) in
    let l : drop p n d ≤ k = omega arith in
    near_widen (rounded_half_step p n D) (mul-le-mul_left d (pow_mono l))

pub whole_half_unit : (p k : ℕ) {n : ℕ} → n < 2 ^ (p + k) → Near (2 * rounded_whole p n) (2 * n) (2 ^ k)
whole_half_unit p k {n} h =
    let l : n < 2 ^ (p + k) * 1 = rw mul-one h in
    simp (mul-one, one-mul) at (rounded_half_unit p k (le_refl 1) l)
