-- The root of n * 2 ^ 52, pair of digits by pair of digits.
use Rattle.std.proofs.Common.{◌≡◌, ℕ, ◌+◌, ◌-◌, ◌*◌, ◌/◌, ◌%◌, ◌^◌, ◌<◌, ◌≤◌, lt_of_lt_of_le, add-one, arith, pow_mono}
use native.Mathlib.Nat.{pow-succ'}

-- q is the root of the first d pairs and r what it leaves; v holds the pairs to come
pub record Digits (n q r v d : ℕ) : Type 0 where
  pub whole : (q * q + r) * 2 ^ 54 + v ≡ n * 4 ^ d
  pub rest : r ≤ 2 * q
  pub coming : v < 2 ^ 54
  pub short : q < 2 ^ d
  pub small : q < 2 ^ 53

module _ {n q r v d : ℕ} (some : d < 53) (digits : Digits n q r v d) where
  -- one more pair, with either digit
  step : (p s : ℕ) → p * p + s ≡ 4 * (q * q) + (4 * r + v / 2 ^ 52) → s ≤ 2 * p → p ≤ 2 * q + 1 → Digits n p s (v % 2 ^ 52 * 4) (d + 1)
  step p s e h k =
      let l : p < 2 ^ (d + 1) = rw (add-one, pow-succ' 2 d) (omega arith) in
      record {
        whole = rw (add-one, pow-succ' 4 d) (omega arith);
        rest = h;
        coming = omega arith;
        short = l;
        small = lt_of_lt_of_le l (pow_mono {i = d + 1} {j = 53} (omega arith));
      }

  pub one : 4 * q < 4 * r + v / 2 ^ 52 → Digits n (2 * q + 1) (4 * r + v / 2 ^ 52 - (4 * q + 1)) (v % 2 ^ 52 * 4) (d + 1)
  one h = step _ _ (omega arith) (omega arith) (omega arith)

  pub none : 4 * r + v / 2 ^ 52 ≤ 4 * q → Digits n (2 * q) (4 * r + v / 2 ^ 52) (v % 2 ^ 52 * 4) (d + 1)
  none h = step _ _ (omega arith) (omega arith) (omega arith)
