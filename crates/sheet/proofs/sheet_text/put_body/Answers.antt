-- What is still to be written makes the whole text, and there is room for it.
use Rattle.std.proofs.Common.{ap}
use Rattle.sheet.specs.declared.sheet_text.Lines.{Lines}
use Rattle.sheet.proofs.Lines.{starts, fits, writes, stops, maps_all}
use Rattle.sheet.proofs.sheet_text.put_body.Goals as goal

pub loop-line-init : goal.loop-line-init
loop-line-init c = starts _ _ _ _ (ap (λ (l : Lines). l.0.now) c.into_iter-line-iterator.ensures.into_iter_gives) c.requires

pub put_answer-w-requires : goal.put_answer-w-requires
put_answer-w-requires c = fits _ _ _ _ _ _ c.loop-line.invariant _ _ _ c.in-Some.ensures.steps c.answer.ensures.0

pub loop-line-preserved : goal.loop-line-preserved
loop-line-preserved c =
    writes _ _ _ _ _ _ c.loop-line.invariant _ _ _ c.in-Some.ensures.steps c.answer.ensures.0 _ _ c.put_answer-w.ensures c.answer.ensures.1

pub returns : goal.returns
returns c =
    (stops _ _ _ _ _ _ c.loop-line.invariant c.in-None.ensures.steps.0, maps_all _ _ _ _ _ _ c.loop-line.invariant c.in-None.ensures.steps.0)
