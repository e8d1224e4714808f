-- The first field that is left, and those past its comma.
use Rattle.std.proofs.Common.{rules, length, ap}
use Rattle.sheet.proofs.Starts.{next_fields}
use Rattle.sheet.proofs.fields.FieldsIterator.next.Goals as goal

pub returns-clause-steps : goal.returns-clause-steps
returns-clause-steps c = rw c.in_ok-self.was (next_fields _ _ _ c.split_once.ensures.before c.split_once.ensures.past)

pub returns-clause-goes : goal.returns-clause-goes
returns-clause-goes c =
    let shorter = ap length (next_fields _ _ _ c.split_once.ensures.before c.split_once.ensures.past) in
    rw c.in_ok-self.was (search rules)
