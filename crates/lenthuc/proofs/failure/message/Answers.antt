-- The bytes of each message are the definition's.
use Rattle.std.proofs.Common.{Some, sym, ap, ◌∙◌}
use Rattle.letters.specs.Ascii.{ascii}
use Rattle.lenthuc.specs.Failure.{message}
use Rattle.lenthuc.proofs.failure.message.Goals as goal

pub returns-in-None : goal.returns-in-None
unfolding message
returns-in-None c = rw c.in-None.is

pub returns-in-Unread : goal.returns-in-Unread
unfolding message ascii
returns-in-Unread c = sym (ap message (c.in-Some.is ∙ ap Some c.in-Unread.is))

pub returns-in-Unwritten : goal.returns-in-Unwritten
unfolding message ascii
returns-in-Unwritten c = sym (ap message (c.in-Some.is ∙ ap Some c.in-Unwritten.is))
