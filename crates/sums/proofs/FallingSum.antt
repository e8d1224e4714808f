-- A nested sum with alternating signs, of coefficients that do not rise, at a w from 0 to 1: it lies between 0 and its first coefficient.
use mathlib.Core.List.{List, [], ◌∷◌}
use Prim.Native.Nat.{ℕ, ◌^◌, ◌≤◌}
use native.Mathlib.Nat.{le_refl, le_trans}
use mathlib.Core.Bool.{false}
use lib.Dec.{lit≤}
use lib.Ieee.{Float, binary64, fits}
use Rattle.float.proofs.Finite.{Finite, finite_of}
use Rattle.float.proofs.UpTo.{UpTo, up_to_mul, sub_up_to}
use Rattle.sums.specs.NestedSum.{alternating}
use Rattle.sums.specs.InverseOdds.{inverse_odds}
use Rattle.sums.specs.Opened.{opened}

-- from n units on
pub data Falling : ℕ → List Float → Type 0 where
  last : {c : Float} {n : ℕ} → Finite binary64 c false n → Falling n (c ∷ [])
  before : {c d : Float} {ds : List Float} {n m : ℕ} → Finite binary64 c false n → m ≤ n → Falling m (d ∷ ds) → Falling n (c ∷ (d ∷ ds))

pub falling_sum : {n : ℕ} {w : Float} {cs : List Float} → UpTo binary64 (2 ^ 1074) w → n ≤ 2 ^ 1074 → Falling n cs → UpTo binary64 n (alternating w cs)
unfolding alternating
falling_sum p h (last c) = record { count = _; is = c; most = le_refl _ }
falling_sum p h (before c l r) = sub_up_to c (up_to_mul p (falling_sum p (le_trans l h) r) (le_trans l h)) l

-- 1, 1/3, 1/5 .. 1/25 are such
pub odds_fall : Falling (2 ^ 1074) inverse_odds
unfolding opened fits
odds_fall =
    before (finite_of binary64 _ tt tt) (lit≤ tt)
    (before (finite_of binary64 _ tt tt) (lit≤ tt)
    (before (finite_of binary64 _ tt tt) (lit≤ tt)
    (before (finite_of binary64 _ tt tt) (lit≤ tt)
    (before (finite_of binary64 _ tt tt) (lit≤ tt)
    (before (finite_of binary64 _ tt tt) (lit≤ tt)
    (before (finite_of binary64 _ tt tt) (lit≤ tt)
    (before (finite_of binary64 _ tt tt) (lit≤ tt)
    (before (finite_of binary64 _ tt tt) (lit≤ tt)
    (before (finite_of binary64 _ tt tt) (lit≤ tt)
    (before (finite_of binary64 _ tt tt) (lit≤ tt)
    (before (finite_of binary64 _ tt tt) (lit≤ tt) (last (finite_of binary64 _ tt tt)))))))))))))
