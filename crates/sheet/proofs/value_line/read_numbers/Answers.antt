-- No field is left, one is no number, or one more is read.
use Rattle.std.proofs.Common.{sym}
use Rattle.sheet.proofs.Numbers.{none_left, no_number, reads, ends}
use Rattle.sheet.proofs.value_line.read_numbers.Goals as goal

pub returns-in_err-next-clause-numbers : goal.returns-in_err-next-clause-numbers
returns-in_err-next-clause-numbers c =
    rw c.from_residual.ensures (none_left _ _ _ _ c.loop-number.invariant c.loop-number-test.true c.in_err-next.ensures.steps.0)

pub returns-in_err-read_hex-clause-numbers : goal.returns-in_err-read_hex-clause-numbers
returns-in_err-read_hex-clause-numbers c =
    rw c.from_residual-in_err-read_hex.ensures
    (no_number _ _ _ _ c.loop-number.invariant c.loop-number-test.true _ _ c.in_ok-next.ensures.steps (sym c.in_err-read_hex.ensures))

pub loop-number-preserved : goal.loop-number-preserved
loop-number-preserved c =
    reads _ _ _ _ c.loop-number.invariant c.loop-number-test.true _ _ c.in_ok-next.ensures.steps c.in_ok-read_hex.field-0 _ (sym c.in_ok-read_hex.ensures) c.f64_of.ensures

pub returns-clause-numbers : goal.returns-clause-numbers
returns-clause-numbers c = ends _ _ _ _ c.loop-number.invariant c.loop-number-test.false
