-- The numbers that are read, and what the fields that are left give, make the whole.
use Rattle.sheet.specs.Left.{fields_left}
use Rattle.sheet.proofs.Numbers.{Reading}
use Rattle.sheet.proofs.value_line.read_numbers.Given as goal

abbrev pub invariant-loop-number : goal.invariant-loop-number
invariant-loop-number l = Reading (fields_left l.initial.fields) (fields_left l.fields) l.number-items l.number-index
