-- The reader's way through the line: where it ends early the line has not the form.
use Rattle.std.proofs.Common.{refl}
use Rattle.sheet.proofs.Forms.{no_first, other_way, no_second, other_kind, no_numbers, field_left, whole}
use Rattle.sheet.proofs.value_line.read_line.Goals as goal

pub returns-in_err-read_letter : goal.returns-in_err-read_letter
returns-in_err-read_letter c = rw c.from_residual.ensures (no_first c.args.line.now c.new-fields.ensures c.in_err-read_letter.ensures.letter)

pub returns-in_err-way : goal.returns-in_err-way
returns-in_err-way c = rw c.from_residual-in_err-way.ensures
    (other_way c.args.line.now c.new-fields.ensures c.in_ok-read_letter.ensures.letter c.in_ok-read_letter.ensures.rest (rw c.try_from.ensures at c.in_err-way.ensures.value))

pub returns-in_err-read_letter-2 : goal.returns-in_err-read_letter-2
returns-in_err-read_letter-2 c = rw c.from_residual-in_err-read_letter-2.ensures
    (no_second c.args.line.now c.new-fields.ensures c.in_ok-read_letter.ensures.letter c.in_ok-read_letter.ensures.rest (rw c.try_from.ensures at c.in_ok-way.ensures.value) c.in_err-read_letter-2.ensures.letter)

pub returns-in_err-kind : goal.returns-in_err-kind
returns-in_err-kind c = rw c.from_residual-in_err-kind.ensures
    (other_kind c.args.line.now c.new-fields.ensures c.in_ok-read_letter.ensures.letter c.in_ok-read_letter.ensures.rest (rw c.try_from.ensures at c.in_ok-way.ensures.value) c.in_ok-read_letter-2.ensures.letter c.in_ok-read_letter-2.ensures.rest (rw c.try_from-2.ensures at c.in_err-kind.ensures.value))

pub returns-in_err-a : goal.returns-in_err-a
returns-in_err-a c = rw c.from_residual-in_err-a.ensures
    (no_numbers c.args.line.now c.new-fields.ensures c.in_ok-read_letter.ensures.letter c.in_ok-read_letter.ensures.rest (rw c.try_from.ensures at c.in_ok-way.ensures.value) c.in_ok-read_letter-2.ensures.letter c.in_ok-read_letter-2.ensures.rest (rw c.try_from-2.ensures at c.in_ok-kind.ensures.value) c.in_err-a.ensures.numbers)

pub returns-in-Some : goal.returns-in-Some
returns-in-Some c = field_left c.args.line.now c.new-fields.ensures c.in_ok-read_letter.ensures.letter c.in_ok-read_letter.ensures.rest (rw c.try_from.ensures at c.in_ok-way.ensures.value) c.in_ok-read_letter-2.ensures.letter c.in_ok-read_letter-2.ensures.rest (rw c.try_from-2.ensures at c.in_ok-kind.ensures.value) c.in_ok-a.ensures.numbers (c.in_ok-a.ensures.rest refl) c.in-Some.ensures.steps

pub returns-in-None : goal.returns-in-None
returns-in-None c = whole c.args.line.now c.new-fields.ensures c.in_ok-read_letter.ensures.letter c.in_ok-read_letter.ensures.rest (rw c.try_from.ensures at c.in_ok-way.ensures.value) c.in_ok-read_letter-2.ensures.letter c.in_ok-read_letter-2.ensures.rest (rw c.try_from-2.ensures at c.in_ok-kind.ensures.value) c.in_ok-a.ensures.numbers (c.in_ok-a.ensures.rest refl) c.in-None.ensures.steps.0
