-- What was read is the sheet, or enough of it.
use Rattle.sheet.specs.SheetText.{limit}
use Rattle.sheet.proofs.Lines.{enough}
use Rattle.lenthuc.proofs.answers.answer_input.Goals as goal

pub returns-clause-answered : goal.returns-clause-answered
unfolding limit
returns-clause-answered c = let w = c.answer_sheet.ensures.0 in λ s e. rw (← enough s) (rw e at w)
