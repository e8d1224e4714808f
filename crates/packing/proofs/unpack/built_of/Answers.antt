-- A mark that is no kind's is a refusal's.
use mathlib.Core.Path.{refl}
use borrow.Author.Tests.{ne_eqb}
use Rattle.packing.specs.Packing.{marked, built_of}
use Rattle.packing.proofs.unpack.built_of.Goals as goal

pub returns-in_default : goal.returns-in_default
unfolding built_of marked
returns-in_default c = let rest = c.in_default.in_default-own.rest in
    rw (c.refusal_of.ensures, ← c.bits_of-mark.ensures, ne_eqb _ _ rest.0.0.0.0.0.1, ne_eqb _ _ rest.0.0.0.0.1, ne_eqb _ _ rest.0.0.0.1, ne_eqb _ _ rest.0.0.1, ne_eqb _ _ rest.0.1, ne_eqb _ _ rest.1) refl
