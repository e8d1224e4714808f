-- A nested sum of small coefficients is small: with w of at most 2 ^ j, a coefficient more makes it at most 2 ^ (j + 1) times as large.
use mathlib.Core.List.{List, [], ◌∷◌}
use Prim.Native.Nat.{ℕ, suc, ◌+◌, ◌≤◌, zero-le}
use native.Mathlib.Omega.{arith}
use lib.Dec.{lit≤}
use lib.Ieee.{Float, binary64, fits, of_bits}
use Rattle.float.specs.Constants.{+0}
use Rattle.float.specs.Units.{unit_count}
use Rattle.float.proofs.AtMost.{AtMost, at_most_of, at_most_more, mul_at_most, add_at_most}
use Rattle.sums.specs.NestedSum.{nested}

-- each is at most 1
pub data Small : List Float → Type 0 where
  none : Small []
  more : {c : Float} {cs : List Float} → AtMost binary64 0 c → Small cs → Small (c ∷ cs)

-- the exponent of a sum of one coefficient and these
abbrev pub exponent : ℕ → List Float → ℕ
exponent j [] = 0
exponent j (c ∷ cs) = suc (j + exponent j cs)

nested_at_most : {j : ℕ} {w c : Float} (cs : List Float) → AtMost binary64 j w → AtMost binary64 0 c → Small cs → exponent j cs ≤ 1023
    → AtMost binary64 (exponent j cs) (nested w (c ∷ cs))
unfolding nested
nested_at_most [] p q r room = q
nested_at_most {j} (d ∷ ds) p q (more s r) room =
    let rest = nested_at_most ds p s r (omega arith) in
    let product = mul_at_most p rest (omega arith) in
    add_at_most binary64 (j + exponent j ds) (omega arith) (at_most_more zero-le q) product

pub nested_small : {j : ℕ} {w : Float} {cs : List Float} → AtMost binary64 j w → Small cs → exponent j cs ≤ 1023 → AtMost binary64 (exponent j cs) (nested w cs)
unfolding nested of_bits fits unit_count
nested_small p none room = at_most_of binary64 0 +0 tt tt (lit≤ tt)
nested_small {cs = c ∷ cs} p (more q r) room = at_most_more (omega arith) (nested_at_most cs p q r (omega arith))
