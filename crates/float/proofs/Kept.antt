-- Rounding n / d to p digits drops `drop p n d` digits and keeps the number `kept p n d`. If any are dropped, it has p digits.
use Prim.Native.Nat.{ℕ, ◌+◌, ◌-◌, ◌*◌, ◌/◌, ◌%◌, ◌^◌, ◌≤◌, ◌<◌, compare}
use native.Mathlib.Nat.{le_trans, le-div_iff_mul-le, div-div-eq-div-mul}
use native.Mathlib.Omega.{arith}
use lib.Pow.{pow-add, pow_pos}
use lib.Ieee.{size}
use lib.Ieee.Digits.{size_reaches}
use lib.Ieee.Fits.{nearest-le, kept-lt}
use lib.Ieee.Nearest.{nearest-ge}
use lib.Ieee.Order.{drop, kept}

-- rounding up may reach 2 ^ p itself
pub kept_le : (p n d : ℕ) → kept p n d ≤ 2 ^ p
kept_le p n d =
    let k = drop p n d in
    let u = d * 2 ^ k in
    le_trans (nearest-le (n / u) (compare (n % u * 2) u)) (rw div-div-eq-div-mul at (kept-lt p (n / d)))

-- a fraction that loses digits has p more than those
pub dropped_le : (p n d : ℕ) → 0 < p → 0 < drop p n d → 2 ^ (p - 1) * 2 ^ drop p n d ≤ n / d
dropped_le p n d P K =
    let l : p - 1 + drop p n d < size (n / d) = omega arith in
    rw pow-add at (size_reaches (n / d) (p - 1 + drop p n d) l)

pub kept_ge : (p n d : ℕ) → 0 < p → 0 < drop p n d → 2 ^ (p - 1) ≤ kept p n d
kept_ge p n d P K =
    let k = drop p n d in
    let u = d * 2 ^ k in
    le_trans (rw div-div-eq-div-mul at ((le-div_iff_mul-le (pow_pos k)).1 (dropped_le p n d P K)))
    (nearest-ge (n / u) (compare (n % u * 2) u))
