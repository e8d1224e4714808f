-- The cursor's laws: field i is the part from its start to the next comma, and past the line's end there are no fields.
use Prim.Native.Nat.{ℕ, zero, suc, ◌+◌, ◌<◌, ◌≤◌}
use mathlib.Core.Path.{◌≡◌, refl, sym, ap, ◌∙◌}
use mathlib.Core.List.{List, [], ◌∷◌}
use mathlib.Core.Bool.{Bool, true, false, cond}
use native.Mathlib.Omega.{arith}
use native.Mathlib.Nat.{zero-add, suc-add, add-zero}
use borrow.Author.Tests.{lt-ltb, le-ltb, ltb-true, ltb-false}
use lib.Dec.{eqb, ltb}
use lib.ListN.{length, drop, take, get_or}
use lib.Seq.{drop-drop, get_or-drop}
use Rattle.std.proofs.Common.{Some, None}
use Rattle.std.proofs.lemmas.Option.{unwrap_or-slice_get}
use Rattle.std.specs.Borrow.{Bor}
use Rattle.std.specs.Prelude.{Option, slice_get}
use Rattle.std.specs.Option.{option_copied, option_map, option_map_or, unwrap_or}
use Rattle.sheet.proofs.Parts.{before_take, past_or}
use Rattle.sheet.specs.Fields.{before, past, joined, fields, field, field_at, next_start, field_start}

pub fields_few : (l : List ℕ) → length (fields l) ≤ suc (length l)
unfolding fields
fields_few [] = omega arith
fields_few (x ∷ l) = go (eqb x 44) (fields l) (fields_few l)
  where
    go : (b : Bool) (ps : List (List ℕ)) → length ps ≤ suc (length l) → length (cond b ([] ∷ ps) (joined x ps)) ≤ suc (suc (length l))
    go true ps h = omega arith
    go false [] h = omega arith
    go false (p ∷ ps) h = omega arith

-- the fields after the first
abbrev others : List ℕ → List (List ℕ)
others [] = []
others (x ∷ l) = cond (eqb x 44) (fields l) (others l)

first_and_others : (l : List ℕ) → fields l ≡ before 44 l ∷ others l
unfolding fields before
first_and_others [] = refl
first_and_others (x ∷ l) = go (first_and_others l) (eqb x 44)
  where
    go : fields l ≡ before 44 l ∷ others l → (b : Bool) → cond b ([] ∷ fields l) (joined x (fields l)) ≡ cond b [] (x ∷ before 44 l) ∷ cond b (fields l) (others l)
    go ih true = refl
    go ih false = ap (joined x) ih

-- the fields from a place on
abbrev rest : List ℕ → ℕ → List (List ℕ)
rest l zero = fields l
rest [] (suc n) = []
rest (x ∷ l) (suc n) = rest l n

rest_none : (l : List ℕ) (at : ℕ) → length l < at → rest l at ≡ []
rest_none l zero h = absurd (omega arith)
rest_none [] (suc n) h = refl
rest_none (x ∷ l) (suc n) h = rest_none l n (omega arith)

rest_some : (l : List ℕ) (at : ℕ) → at ≤ length l → 0 < length (rest l at)
rest_some l zero h = rw (first_and_others l) (omega arith)
rest_some [] (suc n) h = absurd (omega arith)
rest_some (x ∷ l) (suc n) h = rest_some l n (omega arith)

rest_first : (l : List ℕ) (at : ℕ) → get_or (rest l at) 0 [] ≡ field_at l at
unfolding before
rest_first l zero = rw (first_and_others l)
rest_first [] (suc n) = refl
rest_first (x ∷ l) (suc n) = rest_first l n

after_first : (l : List ℕ) → rest l (suc (length (before 44 l))) ≡ others l
unfolding before
after_first [] = refl
after_first (x ∷ l) = go (after_first l) (eqb x 44)
  where
    go : rest l (suc (length (before 44 l))) ≡ others l → (b : Bool) → rest l (length (cond b [] (x ∷ before 44 l))) ≡ cond b (fields l) (others l)
    go ih true = refl
    go ih false = ih

rest_next : (l : List ℕ) (at : ℕ) → at ≤ length l → rest l (at + suc (length (field_at l at))) ≡ drop 1 (rest l at)
unfolding before
rest_next l zero h = rw (zero-add, first_and_others l) (after_first l)
rest_next [] (suc n) h = absurd (omega arith)
rest_next (x ∷ l) (suc n) h = rw (suc-add n (suc (length (field_at l n)))) (rest_next l n (omega arith))

-- ---- one step of the cursor

module _ (l : List ℕ) (at : ℕ) where
  pub next_past : length l < at → next_start l at ≡ at
  unfolding next_start
  next_past h = simp (lt-ltb _ _ h)

  pub next_within : at ≤ length l → next_start l at ≡ at + length (field_at l at) + 1
  unfolding next_start
  next_within h = simp (le-ltb _ _ h)

  step : rest l (next_start l at) ≡ drop 1 (rest l at)
  step = go (ltb (length l) at) refl
    where
      go : (b : Bool) → ltb (length l) at ≡ b → rest l (next_start l at) ≡ drop 1 (rest l at)
      go true e = let h : length l < at = ltb-true _ _ e in rw (next_past h, rest_none l at h)
      go false e =
          let h : at ≤ length l = ltb-false _ _ e in
          let n : at + length (field_at l at) + 1 ≡ at + suc (length (field_at l at)) = omega arith in
          rw (next_within h, n) (rest_next l at h)

-- ---- field by field

from_start : (l : List ℕ) (i : ℕ) → rest l (field_start l i) ≡ drop i (fields l)
unfolding field_start
from_start l zero = refl
from_start l (suc i) =
    let n : i + 1 ≡ suc i = omega arith in
    step l (field_start l i) ∙ ap (drop 1) (from_start l i) ∙ drop-drop 1 i (fields l) ∙ rw n

pub here : (l : List ℕ) (i : ℕ) → field_at l (field_start l i) ≡ field l i
unfolding field
here l i = sym (rest_first l (field_start l i)) ∙ rw (from_start l i) (get_or-drop i (fields l) 0 [] ∙ rw (add-zero i))

-- a field is the part of the line at its start
pub in_line : (l m : List ℕ) (i : ℕ) → m ≡ field l i → m ≡ take (length m) (drop (field_start l i) l)
in_line l m i e = rw (e, ← here l i) (sym (before_take 44 (drop (field_start l i) l)))

-- ---- the first field, and those that stand past its comma

fields_parts : (l : List ℕ) → fields l ≡ before 44 l ∷ option_map_or fields (past 44 l) []
unfolding fields before past
fields_parts [] = refl
fields_parts (x ∷ l) = go (fields_parts l) (eqb x 44)
  where
    go : fields l ≡ before 44 l ∷ option_map_or fields (past 44 l) []
        → (b : Bool) → cond b ([] ∷ fields l) (joined x (fields l)) ≡ cond b [] (x ∷ before 44 l) ∷ option_map_or fields (cond b (Some l) (past 44 l)) []
    go ih true = refl
    go ih false = ap (joined x) ih

behind : (r : Option (Bor (List ℕ))) → option_map_or fields (option_copied r) [] ≡ option_map_or (λ x. fields x.now) r []
behind None = refl
behind (Some x) = refl

pub next_fields : (l f : List ℕ) (r : Option (Bor (List ℕ))) → f ≡ before 44 l → option_copied r ≡ past 44 l → fields l ≡ f ∷ option_map_or (λ x. fields x.now) r []
next_fields l f r e p = fields_parts l ∙ rw (← e, ← p, behind r)

-- field i, as the iterator over the fields gives it
pub nth_field : (l : List ℕ) (i : ℕ) (r : Option (Bor (List ℕ))) (d : Bor (List ℕ)) → option_map (λ x. x.now) r ≡ slice_get (fields l) i → d.now ≡ []
    → (unwrap_or r d).now ≡ field l i
unfolding field
nth_field l i r d e n = past_or r d _ e n ∙ unwrap_or-slice_get (fields l) i []
