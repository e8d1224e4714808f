-- The numbers stand first; what follows them is left of the zeros.
use mathlib.Core.Path.{refl}
use Rattle.std.proofs.lemmas.List.{drop-replicate}
use Rattle.float.specs.Constants.{+0}
use Rattle.packing.proofs.own.with_zeros.Goals as goal

pub returns : goal.returns
returns g c = rw (c.copy_from_slice.ensures.after, drop-replicate g.row.N 18 +0) refl
