-- The square root of an f64, rounded to nearest, judged by whole-number squares (document 01, Fixed functions; squareRoot of IEEE 754-2019, 5.4.1).
use Rattle.std.specs.Prelude.{ℕ, zero, suc, ◌+◌, ◌-◌, ◌*◌, ◌/◌, ◌^◌, true, false, cond, nat_le, Float}
use Prim.Native.Nat.{compare}
use Rattle.std.specs.Float.{nan, inf, fin, binary64}
use Rattle.std.specs.Float.Ieee.{size, nearest, units}
use Rattle.float.specs.Units.{unit_count}

-- The greatest s with s * s ≤ n, for an n below 4 ^ d: n / 4 has the root h / 2, and the last digit to the base 4 makes it h or h + 1.
unfoldable pub integer_root : ℕ → ℕ → ℕ
integer_root zero n = 0
integer_root (suc d) n = let h = 2 * integer_root d (n / 4) in cond (nat_le (suc h * suc h) n) (suc h) h

-- The whole number nearest to the root of w / 4 ^ k, for a root below 2 ^ 53: the integer root q, or q + 1 where w / 4 ^ k is above the square
-- of q + 1/2; both are multiplied by 4 * 4 ^ k. A tie cannot occur where w is an f64's: (2 * q + 1)² is odd and has over 100 digits, w has 53 and then zeros.
unfoldable pub nearest_root : ℕ → ℕ → ℕ
unfolding integer_root
nearest_root w k = let q = integer_root 53 (w / 4 ^ k) in nearest q (compare (w * 4) ((2 * q + 1) * (2 * q + 1) * 4 ^ k))

-- The f64 nearest to the root of w, both in units of 2 ^ -1074. The root has a binary digit for each pair of w's: it keeps 53 and drops k.
unfoldable pub root_units : ℕ → Float
unfolding size units nearest_root
root_units w = let k = suc (size w) / 2 - 53 in units binary64 false (nearest_root w k) k

-- x is n units, and so its root is that of n * 2 ^ 1074, in units. -0 stays, negatives give NaN.
unfoldable pub root : Float → Float
unfolding root_units unit_count
root nan = nan
root (inf s) = cond s nan (inf false)
root (fin s zero e) = fin s zero e
root (fin true (suc m) e) = nan
root (fin false (suc m) e) = root_units (unit_count binary64 (fin false (suc m) e) * 2 ^ 1074)
