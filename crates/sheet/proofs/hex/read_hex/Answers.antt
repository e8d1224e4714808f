-- The value read so far, and the digits that are left, make the whole.
use mathlib.Core.Path.{sym}
use native.Mathlib.Omega.{arith}
use Rattle.sheet.proofs.Digits.{starts, long, reads, refuses, ends, narrow}
use Rattle.sheet.proofs.hex.read_hex.Goals as goal

pub returns-then-field-ne16 : goal.returns-then-field-ne16
returns-then-field-ne16 c = sym (long _ c.if-field-ne16.true)

pub loop-b-init : goal.loop-b-init
loop-b-init c = starts _ c.if-field-ne16.false

pub returns-then-d-ge16 : goal.returns-then-d-ge16
returns-then-d-ge16 c = sym (refuses _ _ _ _ c.loop-b.invariant c.loop-b-test.true c.digit_value-d.ensures c.if-d-ge16.true)

pub overflow_mul-value : goal.overflow_mul-value
overflow_mul-value c = let read = c.loop-b.invariant in omega (arith, narrow _ c.loop-b.value read.small (omega (arith, read.whole, c.loop-b-test.true)))

pub overflow_add-value : goal.overflow_add-value
overflow_add-value c = let read = c.loop-b.invariant in omega (arith, narrow _ c.loop-b.value read.small (omega (arith, read.whole, c.loop-b-test.true)))

pub loop-b-preserved : goal.loop-b-preserved
loop-b-preserved c = reads _ _ _ _ c.loop-b.invariant c.loop-b-test.true c.digit_value-d.ensures c.if-d-ge16.false

pub returns : goal.returns
returns c = sym (ends _ _ _ c.loop-b.invariant c.loop-b-test.false)
