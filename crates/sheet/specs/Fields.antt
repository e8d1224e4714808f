-- The fields of a line: the parts between its commas, always at least one.
use Rattle.std.specs.Prelude.{ℕ, zero, suc, ◌+◌, List, [], ◌∷◌, cond, eqb, ltb, length, drop, get_or, Option, Some, None}

-- what stands before the first c
unfoldable pub before : ℕ → List ℕ → List ℕ
before c [] = []
before c (x ∷ l) = cond (eqb x c) [] (x ∷ before c l)

-- what stands after the first c
unfoldable pub after : ℕ → List ℕ → List ℕ
after c [] = []
after c (x ∷ l) = cond (eqb x c) l (after c l)

-- the same, and nothing where there is no c
unfoldable pub past : ℕ → List ℕ → Option (List ℕ)
past c [] = None
past c (x ∷ l) = cond (eqb x c) (Some l) (past c l)

-- one byte more at the front of the first part
abbrev pub joined : ℕ → List (List ℕ) → List (List ℕ)
joined x [] = (x ∷ []) ∷ []
joined x (p ∷ ps) = (x ∷ p) ∷ ps

-- 44 is the comma
unfoldable pub fields : List ℕ → List (List ℕ)
fields [] = [] ∷ []
fields (x ∷ l) = cond (eqb x 44) ([] ∷ fields l) (joined x (fields l))

-- field i, counted from 0; [] where the line has no such field
unfoldable pub field : List ℕ → ℕ → List ℕ
field l i = get_or (fields l) i []

-- the field that starts at a place
abbrev pub field_at : List ℕ → ℕ → List ℕ
field_at l at = before 44 (drop at l)

-- where the next field starts, after the one that starts at a place; past the line's end there is none, and the place stays
unfoldable pub next_start : List ℕ → ℕ → ℕ
next_start l at = cond (ltb (length l) at) at (at + length (field_at l at) + 1)

-- where field i starts; past the line's end where the line has no such field
unfoldable pub field_start : List ℕ → ℕ → ℕ
field_start l zero = 0
field_start l (suc i) = next_start l (field_start l i)
