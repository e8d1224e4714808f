-- The loop keeps `Digits`, and the last remainder tells the nearest number.
use Rattle.root.proofs.DigitByDigit.{Digits}
use Rattle.root.proofs.digits.digit_root.Given as goal

abbrev pub invariant-loop : goal.invariant-loop
invariant-loop l = Digits l.n l.q l.r l.v l.counter
