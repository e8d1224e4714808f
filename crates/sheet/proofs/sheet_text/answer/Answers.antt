-- What a line asks for is projected, on the map; a line of another form gets 2.
use mathlib.Core.Path.{refl}
use Rattle.sheet.specs.SheetText.{answer}
use Rattle.sheet.proofs.sheet_text.answer.Goals as goal

pub returns-in-Some : goal.returns-in-Some
unfolding answer
returns-in-Some c = rw (← c.read_line.ensures, c.in-Some.is) c.project.ensures

pub returns-in-None : goal.returns-in-None
unfolding answer
returns-in-None c = rw (← c.read_line.ensures, c.in-None.is) (refl, tt)
