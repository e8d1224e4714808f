-- What is read again is what was written.
use mathlib.Core.Path.{refl}
use borrow.Author.Rules.{rules}
use Rattle.packing.proofs.Places.{parts_read}
use Rattle.packing.proofs.pack.packed.Goals as goal

pub returns : goal.returns
returns c = rw (c.joined.ensures, parts_read c.own_numbers.result c.args.p.en c.area.result (search rules) (search rules), c.own_numbers.ensures, c.area.ensures) refl
