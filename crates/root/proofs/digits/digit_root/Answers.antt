-- The loop keeps `Digits`, and the last remainder tells the nearest number.
use Rattle.root.proofs.DigitByDigit.{one, none}
use Rattle.root.proofs.digits.digit_root.Goals as goal
use Rattle.root.proofs.digits.digit_root.Goals.{then-r-q, else-r-q}

pub loop-preserved : goal.loop-preserved
loop-preserved c = elim c.if-r-q.branch [
  | then-r-q w ↦ rw (w.q-is, w.r-is) (one c.loop-test.true c.loop.invariant w.if-r-q.true)
  | else-r-q w ↦ rw (w.q-is, w.r-is) (none c.loop-test.true c.loop.invariant w.if-r-q.false)
]
