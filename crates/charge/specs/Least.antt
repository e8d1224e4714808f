-- The least whole number that passes a test.
use Rattle.std.specs.Prelude.{◌≡◌, ℕ, zero, suc, ◌<◌, Bool, true, false}

-- counted up from k, so many steps at most; `passes` says whether k itself passes
unfoldable pub count_up : (ℕ → Bool) → ℕ → Bool → ℕ → ℕ
count_up test zero passes k = k
count_up test (suc steps) true k = k
count_up test (suc steps) false k = count_up test steps (test (suc k)) (suc k)

-- counted up from 0, and no farther than `most`
unfoldable pub least : (ℕ → Bool) → ℕ → ℕ
unfolding count_up
least test most = count_up test most (test 0) 0

-- what it is: it passes, and no smaller one does
pub record Least (test : ℕ → Bool) (k : ℕ) : Type 0 where
  pub passes : test k ≡ true
  pub first : (j : ℕ) → j < k → test j ≡ false
