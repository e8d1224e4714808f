-- A pair has number 0, a refusal two results +0.
use Rattle.sheet.specs.AnswerLine.{answer_line}
use Rattle.sheet.proofs.answer_line.put_answer.Goals as goal

pub put_row-requires : goal.put_row-requires
unfolding answer_line
put_row-requires c = rw c.in-Ok.is at c.requires

pub put_row-requires-in-Err : goal.put_row-requires-in-Err
unfolding answer_line
put_row-requires-in-Err c = rw c.number.ensures (rw c.in-Err.is at c.requires)

pub returns-in-Ok : goal.returns-in-Ok
unfolding answer_line
returns-in-Ok c = rw c.in-Ok.is c.put_row.ensures

pub returns-in-Err : goal.returns-in-Err
unfolding answer_line
returns-in-Err c = rw (c.in-Err.is, ← c.number.ensures) c.put_row-in-Err.ensures
