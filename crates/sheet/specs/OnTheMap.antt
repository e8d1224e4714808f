-- Demand 3 of a sheet: whatever an inverse line answers lies on the map.
use Rattle.std.specs.Prelude.{ℕ, ◌≤◌, ◌≡◌, List, [], ◌∷◌, length, Option, Some, None}
use Rattle.projection.specs.Answer.{Answer}
use Rattle.kinds.specs.Kinds.{build}
use Rattle.kinds.specs.OnTheMap.{PointOnTheMap}
use Rattle.sheet.specs.Fields.{before, after}
use Rattle.sheet.specs.ValueLine.{read_line}
use Rattle.sheet.specs.SheetText.{answer, lines, names, limit}
use Rattle.sheet.specs.declared.value_line.Values.{Values}

-- of what a line asks for
abbrev pub AskedOnTheMap : Option Values → Answer → Type 0
AskedOnTheMap (Some q) a = PointOnTheMap q.way (build q.kind q.a q.f q.settings) q.u q.v a
AskedOnTheMap None a = Unit

-- of a value line
abbrev pub LineOnTheMap : List ℕ → Answer → Type 0
LineOnTheMap l a = AskedOnTheMap (read_line l) a

-- of value lines, each with its answer
unfoldable pub LinesOnTheMap : List (List ℕ) → Type 0
LinesOnTheMap [] = Unit
LinesOnTheMap (l ∷ ls) = LineOnTheMap l (answer l) × LinesOnTheMap ls

-- of a sheet that is answered: one within the limit whose first line is the names line
abbrev pub SheetOnTheMap : List ℕ → Type 0
SheetOnTheMap s = length s ≤ limit → before 10 s ≡ names → LinesOnTheMap (lines (after 10 s))
