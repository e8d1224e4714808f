-- What stands past the first byte 10, or nothing.
use Rattle.std.proofs.Common.{refl, sym, ◌∙◌}
use Rattle.sheet.proofs.Parts.{after_past, past_or}
use Rattle.sheet.proofs.sheet_text.split_line.Goals as goal

pub returns-clause-rest : goal.returns-clause-rest
returns-clause-rest c = rw c.unwrap_or.ensures (past_or c.split_once.result.1 _ _ c.split_once.ensures.past refl ∙ sym (after_past 10 c.args.text.now))
