-- Document 01's example sheet, by computation.
use Rattle.std.specs.Prelude.{ℕ, ◌≡◌, refl, List}
use Rattle.letters.specs.Ascii.{ascii}
use Rattle.kinds.specs.Opened as kinds_below
use Rattle.sheet.specs.Hex.{digit_value, read_hex, glyph, digits}
use Rattle.sheet.specs.Fields.{before, after, fields, field}
use Rattle.sheet.specs.ValueLine.{letter, is_number, number, all_numbers, has_form, read_values, read_line}
use Rattle.sheet.specs.AnswerLine.{decimal, bit_field, row, answer_line}
use Rattle.sheet.specs.SheetText.{answer, lines, body, names, answer_names, same, limit, sheet_text}

unfoldable pub input : List ℕ
input = ascii "way,kind,a,f,lon0,lat0,lat1,lat2,fe,fn,u,v\nF,P,3ff0000000000000,0000000000000000,0000000000000000,0000000000000000,0000000000000000,0000000000000000,0000000000000000,0000000000000000,3fe0000000000000,0000000000000000\n"

unfoldable pub output : List ℕ
output = ascii "code,p,q\n0,3fe0000000000000,0000000000000000\n"

pub example : sheet_text input ≡ output
unfolding kinds_below.opened input output sheet_text limit same names answer_names before after lines body answer read_line has_form read_values fields field
    letter is_number number all_numbers read_hex digit_value answer_line row decimal bit_field digits glyph
example = refl
