-- Each letter is one of the definition's; the last arm has neither.
use Rattle.std.proofs.Common.{arith, sym, ap}
use Rattle.std.proofs.lemmas.Bool.Decides.{nat_tests}
use Rattle.letters.specs.Ascii.{ascii}
use Rattle.letters.specs.Letters.{way_from, is_way, way_of, one_of}
use Rattle.letters.proofs.letters.WayTryFromU8.try_from.Goals as goal

pub returns-in-70 : goal.returns-in-70
unfolding way_from is_way way_of one_of ascii
returns-in-70 c = sym (ap way_from c.in-70.is)

pub returns-in-73 : goal.returns-in-73
unfolding way_from is_way way_of one_of ascii
returns-in-73 c = sym (ap way_from c.in-73.is)

pub returns-in_default : goal.returns-in_default
unfolding way_from is_way way_of one_of ascii
returns-in_default c = grind (arith, nat_tests)
