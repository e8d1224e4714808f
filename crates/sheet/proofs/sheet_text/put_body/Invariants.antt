-- What is still to be written makes the whole text, and there is room for it.
use Rattle.sheet.specs.SheetText.{lines}
use Rattle.sheet.proofs.Lines.{Writing}
use Rattle.sheet.proofs.sheet_text.put_body.Given as goal

abbrev pub invariant-loop-line : goal.invariant-loop-line
invariant-loop-line l = Writing (lines l.fn.text) l.initial.out l.at (lines l.line-iterator.0.now) l.out l.w
