-- A key past the table's has the last entry.
use Prim.Native.Nat.{ℕ, ◌+◌}
use mathlib.Core.Path.{◌≡◌, refl}
use mathlib.Core.List.{List, [], ◌∷◌}
use Rattle.std.proofs.Common.{arith, ◌≤◌, length}
use borrow.Author.Tests.{ne_eqb}
use Rattle.root_table.specs.Entry.{entry_at}

unfoldable pub last : {A : Type 0} → List A → A → A
last [] d = d
last (x ∷ []) d = x
last (x ∷ y ∷ ys) d = last (y ∷ ys) d

pub past : {A : Type 0} (k n : ℕ) (xs : List A) (d : A) → n + length xs ≤ k → entry_at k n xs d ≡ last xs d
unfolding entry_at last
past k n [] d h = refl
past k n (x ∷ []) d h = refl
past k n (x ∷ y ∷ ys) d h = rw (ne_eqb k n (λ e. omega (arith, e, h))) (past k (n + 1) (y ∷ ys) d (omega (arith, h)))
