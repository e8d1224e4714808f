-- A table by its keys.
use Rattle.std.specs.Prelude.{cond, List, [], ◌∷◌, ℕ, ◌+◌, eqb}

-- the entry at the key k, the first standing at n; the last is every other key's, and a table of none gives d
unfoldable pub entry_at : {A : Type 0} → ℕ → ℕ → List A → A → A
entry_at k n [] d = d
entry_at k n (x ∷ []) d = x
entry_at k n (x ∷ y ∷ ys) d = cond (eqb k n) x (entry_at k (n + 1) (y ∷ ys) d)
