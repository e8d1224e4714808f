-- What the readers of a text have left of it: the fields of a line, the lines of a text.
use Rattle.std.specs.Prelude.{ℕ, List, []}
use Rattle.std.specs.Option.{option_map_or}
use Rattle.sheet.specs.Fields.{fields}
use Rattle.sheet.specs.SheetText.{lines}
use Rattle.sheet.specs.declared.fields.Fields.{Fields}
use Rattle.sheet.specs.declared.sheet_text.Lines.{Lines}

abbrev pub fields_left : Fields → List (List ℕ)
fields_left f = option_map_or (λ rest. fields rest.now) f.rest []

abbrev pub lines_left : Lines → List (List ℕ)
lines_left l = lines l.0.now
