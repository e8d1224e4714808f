-- A field of one byte, or another, or none.
use Rattle.std.proofs.Common.{length, arith, eq-eqb, ne_eqb}
use Rattle.sheet.specs.ValueLine.{first_letter, letter}
use Rattle.sheet.proofs.value_line.read_letter.Goals as goal

pub returns-in_err-next-clause-letter : goal.returns-in_err-next-clause-letter
unfolding first_letter
returns-in_err-next-clause-letter c = rw (c.from_residual.ensures, c.in_err-next.ensures.steps.0)

pub returns-in-len1-clause-letter : goal.returns-in-len1-clause-letter
unfolding first_letter letter
returns-in-len1-clause-letter c = rw c.in_ok-next.ensures.steps (simp (eq-eqb (length c.in_ok-next.field-0.now) 1 (omega arith)))

pub returns-in_default-clause-letter : goal.returns-in_default-clause-letter
unfolding first_letter
returns-in_default-clause-letter c = rw c.in_ok-next.ensures.steps (simp (ne_eqb (length c.in_ok-next.field-0.now) 1 (λ e. omega arith)))

pub returns-in_default-2-clause-letter : goal.returns-in_default-2-clause-letter
unfolding first_letter
returns-in_default-2-clause-letter c = rw c.in_ok-next.ensures.steps (simp (ne_eqb (length c.in_ok-next.field-0.now) 1 (λ e. omega arith)))
