-- What is built, and beside it the meridian numbers and the area of use.
use mathlib.Core.Path.{refl}
use borrow.Author.Rules.{rules}
use Rattle.packing.specs.Packing.{unpacked}
use Rattle.packing.proofs.Places.{en_read}
use Rattle.packing.proofs.unpack.unpacked.Goals as goal

pub returns : goal.returns
unfolding unpacked
returns c = rw (c.copy_from_slice.ensures.after, en_read c.args.n.now (search rules), ← c.built_of.ensures, ← c.area_of.ensures) refl
