-- The laws of a sheet's lines, of the text that answers them and of the room that it takes.
use Prim.Native.Nat.{ℕ, suc, ◌+◌, ◌-◌, ◌*◌, ◌/◌, ◌%◌, ◌<◌, ◌≤◌}
use mathlib.Core.Path.{◌≡◌, refl, sym, ap, ◌∙◌}
use mathlib.Core.List.{List, [], ◌∷◌, ◌++◌}
use mathlib.Core.Bool.{Bool, true, false, cond, ◌&&◌, and_assoc}
use native.Mathlib.Omega.{arith}
use borrow.Author.Tests.{eq-eqb, eqb-true, lt-ltb, le-ltb, ltb-true, ltb-false}
use lib.Dec.{eqb, ltb}
use lib.ListN.{length, take, length-append}
use lib.Seq.{sets, length-sets, length-take-le, take_all}
use Rattle.std.specs.Prelude.{Err}
use Rattle.refusals.specs.Refusals.{number_of, number}
use Rattle.refusals.specs.declared.Refusal.{Refusal}
use Rattle.refusals.specs.declared.Refusal.TheVariants.{SheetSize, LineForm}
use Rattle.projection.specs.Answer.{Answer}
use Rattle.projection.specs.Results.{first_result, second_result}
use Rattle.float.specs.Constants.{+0}
use Rattle.letters.specs.Ascii.{ascii}
use Rattle.sheet.specs.Fields.{before, after, joined, fields}
use Rattle.sheet.specs.ValueLine.{has_form, read_values, read_line}
use Rattle.sheet.specs.Written.{Written}
use Rattle.sheet.specs.AnswerLine.{decimal, answer_line}
use Rattle.sheet.specs.OnTheMap.{LineOnTheMap, LinesOnTheMap, SheetOnTheMap}
use Rattle.sheet.specs.SheetText.{answer, answer_to, lines, body, names, answer_names, same, limit, sheet_text}
use Rattle.std.proofs.Common.{Some, None}
use Rattle.sheet.proofs.Parts.{after_short}
use Rattle.sheet.proofs.Starts.{fields_few}
use Rattle.sheet.proofs.Stores.{sets_append, one_digit, row_long}

-- ---- the room that an answer takes: 36 bytes for a line of another form, at most 38 for one of 11 bytes and more

decimal_long : (n : ℕ) → length (decimal n) ≤ 3
unfolding decimal
decimal_long n = go (ltb n 10) (ltb n 100)
  where
    go : (a b : Bool) → length (cond a ((48 + n) ∷ []) (cond b ((48 + n / 10) ∷ (48 + n % 10) ∷ []) ((48 + n / 100) ∷ (48 + n / 10 % 10) ∷ (48 + n % 10) ∷ []))) ≤ 3
    go true b = omega arith
    go false true = omega arith
    go false false = omega arith

pub refused_long : (r : Refusal) → number_of r < 10 → length (answer_line (Err r)) ≡ 36
unfolding answer_line
refused_long r h = omega (arith, row_long (number_of r) +0 +0, ap length (one_digit (number_of r) h))

answer_long : (a : Answer) → length (answer_line a) ≤ 38
unfolding answer_line
answer_long a = omega (arith, row_long (number a) (first_result a) (second_result a), decimal_long (number a))

form_long : (l : List ℕ) → has_form l ≡ true → 11 ≤ length l
unfolding has_form
form_long l e = go (eqb (length (fields l)) 12) _ refl (simp and_assoc at e)
  where
    go : (a b : Bool) → eqb (length (fields l)) 12 ≡ a → (a && b) ≡ true → 11 ≤ length l
    go true b p q = let n : length (fields l) ≡ 12 = eqb-true _ _ p in omega (arith, fields_few l)
    go false b p q = let y : ◌≡◌ {A = ℕ} 0 1 = cc in omega arith

line_room : (l : List ℕ) → length (answer_line (answer l)) ≤ 36 + (length l - 1)
unfolding answer read_line
line_room l = go (has_form l) refl
  where
    go : (b : Bool) → has_form l ≡ b → length (answer_line (answer_to (cond b (Some (read_values l)) None))) ≤ 36 + (length l - 1)
    go true e = omega (arith, form_long l e, answer_long (answer_to (Some (read_values l))))
    go false e = let h : 2 < 10 = omega arith in omega (arith, refused_long LineForm h)

-- what a text's lines take at most
abbrev weight : List (List ℕ) → ℕ
weight [] = 0
weight (l ∷ ls) = 36 + (length l - 1) + weight ls

body_weight : (ls : List (List ℕ)) → length (body ls) ≤ weight ls
unfolding body
body_weight [] = omega arith
body_weight (l ∷ ls) = omega (arith, length-append (answer_line (answer l)) (body ls), line_room l, body_weight ls)

lines_weight : (l : List ℕ) → weight (lines l) ≤ 36 * length l
unfolding lines
lines_weight [] = omega arith
lines_weight (x ∷ l) = go (eqb x 10) (lines l) (lines_weight l)
  where
    go : (b : Bool) (ls : List (List ℕ)) → weight ls ≤ 36 * length l → weight (cond b ([] ∷ ls) (joined x ls)) ≤ 36 * suc (length l)
    go true ls h = omega arith
    go false [] h = omega arith
    go false (p ∷ ps) h = omega arith

body_room : (l : List ℕ) → length (body (lines l)) ≤ 36 * length l
body_room l = omega (arith, body_weight (lines l), lines_weight l)

-- ---- the lines

-- a text that is not empty is its first line and the lines after it
first_line : (x : ℕ) (l : List ℕ) → lines (x ∷ l) ≡ before 10 (x ∷ l) ∷ lines (after 10 (x ∷ l))
unfolding lines before after
first_line x [] = go (eqb x 10)
  where
    go : (b : Bool) → cond b ([] ∷ []) (joined x []) ≡ cond b [] (x ∷ []) ∷ lines (cond b [] [])
    go true = refl
    go false = refl
first_line x (y ∷ l) = go (eqb x 10) (first_line y l)
  where
    go : (b : Bool) → lines (y ∷ l) ≡ before 10 (y ∷ l) ∷ lines (after 10 (y ∷ l))
        → cond b ([] ∷ lines (y ∷ l)) (joined x (lines (y ∷ l))) ≡ cond b [] (x ∷ before 10 (y ∷ l)) ∷ lines (cond b (y ∷ l) (after 10 (y ∷ l)))
    go true ih = refl
    go false ih = ap (joined x) ih

pub next_lines : (l : List ℕ) → 0 < length l → lines l ≡ before 10 l ∷ lines (after 10 l)
next_lines [] h = absurd (omega arith)
next_lines (x ∷ l) h = first_line x l

pub no_lines : (l : List ℕ) → length l ≡ 0 → lines l ≡ []
unfolding lines
no_lines [] h = refl
no_lines (x ∷ l) h = absurd (omega arith)

-- The loop's invariant: what is still to be written makes the whole text, there is room for it, and if the lines that are left are on the
-- map, all are.
pub record Writing (all : List (List ℕ)) (l₀ : List ℕ) (at : ℕ) (left : List (List ℕ)) (l : List ℕ) (w : ℕ) : Type 0 where
  pub kept : length l ≡ length l₀
  pub room : at + length (body all) ≤ length l₀
  pub count : w + length (body left) ≡ at + length (body all)
  pub rest : sets l w (body left) ≡ sets l₀ at (body all)
  pub mapped : LinesOnTheMap left → LinesOnTheMap all

pub starts : (s t l : List ℕ) (at : ℕ) → t ≡ s → at + 36 * length s ≤ length l → Writing (lines s) l at (lines t) l at
starts s t l at e h = rw e (record { kept = refl; room = omega (arith, body_room s); count = refl; rest = refl; mapped = λ m. m })

module _ (all : List (List ℕ)) (l₀ : List ℕ) (at : ℕ) (left : List (List ℕ)) (l : List ℕ) (w : ℕ) (v : Writing all l₀ at left l w) where
  module _ (x : List ℕ) (later : List (List ℕ)) (a : Answer) (e : left ≡ x ∷ later) (p : a ≡ answer x) where
    next : body left ≡ answer_line a ++ body later
    unfolding body
    next = rw (e, p)

    pub fits : w + length (answer_line a) ≤ length l
    fits = omega (arith, v.room, v.count, v.kept, ap length next, length-append (answer_line a) (body later))

    pub writes : (r : ℕ) (m : List ℕ) → Written l w (answer_line a) r m → LineOnTheMap x a → Writing all l₀ at later m r
    unfolding LinesOnTheMap
    writes r m o on =
        record {
          kept = rw o.stored (length-sets l w (answer_line a) ∙ v.kept);
          room = v.room;
          count = omega (arith, v.count, o.place, ap length next, length-append (answer_line a) (body later));
          rest = rw (o.stored, o.place) (sym (sets_append l w (answer_line a) (body later)) ∙ rw (← next) v.rest);
          mapped = λ rest. v.mapped (rw e (rw p at on, rest));
        }

  pub stops : left ≡ [] → Written l₀ at (body all) w l
  unfolding body
  stops e = let z : body left ≡ [] = rw e in record { place = omega (arith, v.count, ap length z); within = omega (arith, v.count, v.room, ap length z); stored = rw z at v.rest }

  pub maps_all : left ≡ [] → LinesOnTheMap all
  unfolding LinesOnTheMap
  maps_all e = v.mapped (rw e tt)

-- ---- the whole sheet

same_true : (l m : List ℕ) → same l m ≡ true → l ≡ m
unfolding same
same_true [] [] e = refl
same_true [] (y ∷ m) e = cc
same_true (x ∷ l) [] e = cc
same_true (x ∷ l) (y ∷ m) e = go (eqb x y) (same l m) refl (same_true l m) e
  where
    go : (a b : Bool) → eqb x y ≡ a → (b ≡ true → l ≡ m) → (a && b) ≡ true → (x ∷ l) ≡ (y ∷ m)
    go true b p q e = let u : x ≡ y = eqb-true x y p in let v : l ≡ m = q e in cc
    go false b p q e = cc

same_refl : (l : List ℕ) → same l l ≡ true
unfolding same
same_refl [] = refl
same_refl (x ∷ l) = simp (eq-eqb x x refl) (same_refl l)

same_false : (l m : List ℕ) → (l ≡ m → ⊥) → same l m ≡ false
same_false l m h = go (same l m) refl
  where
    go : (b : Bool) → same l m ≡ b → b ≡ false
    go true e = absurd (h (same_true l m e))
    go false e = refl

pub not_both : {b : Bool} → b ≡ false → b ≡ true → ⊥
not_both p q = let z : true ≡ false = sym q ∙ p in let y : ◌≡◌ {A = ℕ} 0 1 = cc in omega arith

module _ (s : List ℕ) where
  pub over : limit < length s → sheet_text s ≡ answer_line (Err SheetSize)
  unfolding sheet_text
  over h = simp (lt-ltb _ _ h)

  pub over_lines : limit < length s → SheetOnTheMap s
  over_lines h k n = absurd (omega arith)

  module _ (h : length s ≤ limit) where
    pub right : before 10 s ≡ names → sheet_text s ≡ answer_names ++ body (lines (after 10 s))
    unfolding sheet_text
    right n = simp (le-ltb _ _ h) (rw (n, same_refl names))

    -- a sheet with another first line has none
    pub wrong_lines : (before 10 s ≡ names → ⊥) → SheetOnTheMap s
    wrong_lines q h' n = absurd (q n)

    -- the names line and the byte that ends it are no part of what is left
    pub right_rest : before 10 s ≡ names → length (after 10 s) ≤ length s - 43
    unfolding names ascii
    right_rest n = omega (arith, after_short 10 s, ap length n)

    pub wrong : (b : Bool) → b ≡ false → (before 10 s ≡ names → b ≡ true) → sheet_text s ≡ answer_line (Err LineForm)
    unfolding sheet_text
    wrong b p q = simp (le-ltb _ _ h) (rw (same_false (before 10 s) names (λ m. not_both p (q m))))

-- one byte over the limit is enough of a sheet
pub enough : (s : List ℕ) → sheet_text (take (limit + 1) s) ≡ sheet_text s
enough s = go (ltb limit (length s)) refl
  where
    go : (b : Bool) → ltb limit (length s) ≡ b → sheet_text (take (limit + 1) s) ≡ sheet_text s
    go true e =
        let h : limit < length s = ltb-true _ _ e in
        let k : limit < length (take (limit + 1) s) = omega (arith, length-take-le (limit + 1) s (omega arith)) in
        over (take (limit + 1) s) k ∙ sym (over s h)
    go false e = let h : length s ≤ limit + 1 = omega (arith, ltb-false limit (length s) e) in rw (take_all (limit + 1) s h)
