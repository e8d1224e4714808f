-- Each letter is one of the definition's; the last arm has none of the seven.
use Rattle.std.proofs.Common.{arith, sym, ap}
use Rattle.std.proofs.lemmas.Bool.Decides.{nat_tests}
use Rattle.letters.specs.Ascii.{ascii}
use Rattle.letters.specs.Letters.{kind_from, is_kind, kind_of, one_of}
use Rattle.letters.proofs.letters.KindTryFromU8.try_from.Goals as goal

pub returns-in-76 : goal.returns-in-76
unfolding kind_from is_kind kind_of one_of ascii
returns-in-76 c = sym (ap kind_from c.in-76.is)

pub returns-in-83 : goal.returns-in-83
unfolding kind_from is_kind kind_of one_of ascii
returns-in-83 c = sym (ap kind_from c.in-83.is)

pub returns-in-65 : goal.returns-in-65
unfolding kind_from is_kind kind_of one_of ascii
returns-in-65 c = sym (ap kind_from c.in-65.is)

pub returns-in-69 : goal.returns-in-69
unfolding kind_from is_kind kind_of one_of ascii
returns-in-69 c = sym (ap kind_from c.in-69.is)

pub returns-in-67 : goal.returns-in-67
unfolding kind_from is_kind kind_of one_of ascii
returns-in-67 c = sym (ap kind_from c.in-67.is)

pub returns-in-80 : goal.returns-in-80
unfolding kind_from is_kind kind_of one_of ascii
returns-in-80 c = sym (ap kind_from c.in-80.is)

pub returns-in-71 : goal.returns-in-71
unfolding kind_from is_kind kind_of one_of ascii
returns-in-71 c = sym (ap kind_from c.in-71.is)

pub returns-in_default : goal.returns-in_default
unfolding kind_from is_kind kind_of one_of ascii
returns-in_default c = grind (arith, nat_tests)
