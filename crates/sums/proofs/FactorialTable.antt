-- A table of 1/n! for n = 2 to 17: its rule is one equation of lists, and says what each entry is.
use mathlib.Core.Path.{◌≡◌, ◌∙◌, ap}
use mathlib.Core.List.{List, [], ◌∷◌}
use Prim.Native.Nat.{ℕ, zero, suc, ◌+◌, ◌-◌, ◌<◌, ◌≤◌}
use native.Mathlib.Nat.{add-zero, le_of_suc-le-suc, not-suc-le-zero}
use native.Mathlib.Omega.{arith}
use lib.Ieee.{Float}
use lib.ListN.{get_or}
use Rattle.sums.specs.Factorials.{inverse_factorial}

-- the values of g from i on, n of them
unfoldable pub tabulate : (ℕ → Float) → ℕ → ℕ → List Float
tabulate g i zero = []
tabulate g i (suc n) = g i ∷ tabulate g (suc i) n

tabulate_at : (g : ℕ → Float) (i n k : ℕ) (d : Float) → k < n → get_or (tabulate g i n) k d ≡ g (i + k)
unfolding tabulate
tabulate_at g i zero k d h = absurd (not-suc-le-zero h)
tabulate_at g i (suc n) zero d h = rw add-zero
tabulate_at g i (suc n) (suc k) d h = tabulate_at g (suc i) n k d (le_of_suc-le-suc h) ∙ ap g (omega arith)

pub entry : (table : List Float) (d : Float) → table ≡ tabulate inverse_factorial 2 16 → (n : ℕ) → 2 ≤ n → n < 18
    → get_or table (n - 2) d ≡ inverse_factorial n
entry table d rule n a b =
    ap (λ (l : List Float). get_or l (n - 2) d) rule
    ∙ tabulate_at inverse_factorial 2 16 (n - 2) d (omega arith)
    ∙ ap inverse_factorial (omega arith)
