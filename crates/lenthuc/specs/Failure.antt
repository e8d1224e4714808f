-- What is said on standard error of each failure.
use Rattle.std.specs.Prelude.{ℕ, List, [], Option, Some, None}
use Rattle.letters.specs.Ascii.{ascii}
use Rattle.lenthuc.specs.declared.failure.Failure.{Failure}
use Rattle.lenthuc.specs.declared.failure.Failure.TheVariants.{Unread, Unwritten}

unfoldable pub message : Option Failure → List ℕ
message None = []
message (Some Unread) = ascii "lenthuc: the sheet could not be read to its end\n"
message (Some Unwritten) = ascii "lenthuc: the answers could not be written\n"
