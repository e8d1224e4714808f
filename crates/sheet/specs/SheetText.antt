-- A whole sheet: its lines, and the text that answers it.
use Rattle.std.specs.Prelude.{ℕ, List, [], ◌∷◌, ◌++◌, Bool, true, false, cond, ◌&&◌, ltb, eqb, length, Option, Some, None, Err}
use Rattle.refusals.specs.declared.Refusal.TheVariants.{SheetSize, LineForm}
use Rattle.projection.specs.Answer.{Answer}
use Rattle.kinds.specs.Kinds.{project}
use Rattle.letters.specs.Ascii.{ascii}
use Rattle.sheet.specs.Fields.{before, after, joined}
use Rattle.sheet.specs.ValueLine.{read_line}
use Rattle.sheet.specs.AnswerLine.{answer_line}
use Rattle.sheet.specs.declared.value_line.Values.{Values}

abbrev pub answer_to : Option Values → Answer
answer_to (Some q) = project q.way q.kind q.a q.f q.settings q.u q.v
answer_to None = Err LineForm

-- the answer to a value line
unfoldable pub answer : List ℕ → Answer
answer l = answer_to (read_line l)

-- the lines of a text: each ends in byte 10, the last optionally; a final byte 10 opens no line
unfoldable pub lines : List ℕ → List (List ℕ)
lines [] = []
lines (x ∷ l) = cond (eqb x 10) ([] ∷ lines l) (joined x (lines l))

-- an answer line for each value line, refused or not
unfoldable pub body : List (List ℕ) → List ℕ
body [] = []
body (l ∷ ls) = answer_line (answer l) ++ body ls

unfoldable pub names : List ℕ
names = ascii "way,kind,a,f,lon0,lat0,lat1,lat2,fe,fn,u,v"

unfoldable pub answer_names : List ℕ
answer_names = ascii "code,p,q\n"

unfoldable pub same : List ℕ → List ℕ → Bool
same [] [] = true
same [] (y ∷ m) = false
same (x ∷ l) [] = false
same (x ∷ l) (y ∷ m) = eqb x y && same l m

-- the most bytes that a sheet may have
unfoldable pub limit : ℕ
limit = 65536

-- 1 for a sheet over the limit, 2 for another first line (an empty sheet has one): that one line alone.
-- Else the names line, and the answers to the lines after the first.
unfoldable pub sheet_text : List ℕ → List ℕ
sheet_text s =
    cond (ltb limit (length s)) (answer_line (Err SheetSize))
    (cond (same (before 10 s) names) (answer_names ++ body (lines (after 10 s))) (answer_line (Err LineForm)))
