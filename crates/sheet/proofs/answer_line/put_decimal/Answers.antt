-- As many bytes are stored as the number has digits.
use native.Mathlib.Omega.{arith}
use Prim.Native.Nat.{◌+◌, ◌/◌, ◌%◌}
use mathlib.Core.Path.{refl, ap}
use native.Mathlib.Numerals.{add-one}
use lib.ListN.{length, length-set}
use Rattle.sheet.proofs.Stores.{one_digit, two_digits, three_digits, three_stored}
use Rattle.sheet.proofs.answer_line.put_decimal.Goals as goal

pub bounds-out-at : goal.bounds-out-at
bounds-out-at c = omega (arith, ap length (one_digit _ c.if-n-lt10.true))

pub bounds-out-at-then-n-lt100 : goal.bounds-out-at-then-n-lt100
bounds-out-at-then-n-lt100 c = omega (arith, ap length (two_digits _ c.if-n-lt10.false c.if-n-lt100.true))

pub bounds-out-at-then-n-lt100-2 : goal.bounds-out-at-then-n-lt100-2
bounds-out-at-then-n-lt100-2 c = simp length-set (omega (arith, ap length (two_digits _ c.if-n-lt10.false c.if-n-lt100.true)))

pub bounds-out-at-else-n-lt100 : goal.bounds-out-at-else-n-lt100
bounds-out-at-else-n-lt100 c = omega (arith, ap length (three_digits _ c.if-n-lt10.false c.if-n-lt100.false))

pub bounds-out-at-else-n-lt100-2 : goal.bounds-out-at-else-n-lt100-2
bounds-out-at-else-n-lt100-2 c = simp length-set (omega (arith, ap length (three_digits _ c.if-n-lt10.false c.if-n-lt100.false)))

pub bounds-out-at-else-n-lt100-3 : goal.bounds-out-at-else-n-lt100-3
bounds-out-at-else-n-lt100-3 c = simp length-set (omega (arith, ap length (three_digits _ c.if-n-lt10.false c.if-n-lt100.false)))

pub returns-then-n-lt10 : goal.returns-then-n-lt10
returns-then-n-lt10 c = rw (one_digit _ c.if-n-lt10.true) (record { place = refl; within = omega (arith, ap length (one_digit _ c.if-n-lt10.true)); stored = refl })

pub returns-then-n-lt100 : goal.returns-then-n-lt100
returns-then-n-lt100 c = rw (two_digits _ c.if-n-lt10.false c.if-n-lt100.true) (record { place = refl; within = omega (arith, ap length (two_digits _ c.if-n-lt10.false c.if-n-lt100.true)); stored = rw add-one })

pub returns-else-n-lt100 : goal.returns-else-n-lt100
returns-else-n-lt100 c = rw (three_digits _ c.if-n-lt10.false c.if-n-lt100.false) (record { place = refl; within = omega (arith, ap length (three_digits _ c.if-n-lt10.false c.if-n-lt100.false)); stored = let a = c.args in three_stored a.out.now a.at (48 + a.n / 100) (48 + a.n / 10 % 10) (48 + a.n % 10) })
