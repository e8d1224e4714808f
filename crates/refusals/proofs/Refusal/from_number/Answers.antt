-- The number is tested by the arms before.
use Rattle.refusals.specs.Refusals.{from_number-unlisted}
use Rattle.refusals.proofs.Refusal.from_number.Goals as goal

pub returns-in_default : goal.returns-in_default
returns-in_default c = from_number-unlisted c.args.number _
