-- The digits that are left to write make the whole text with those written.
use mathlib.Core.Path.{refl, sym, ◌∙◌}
use native.Mathlib.Omega.{arith}
use lib.ListN.{length-set}
use Rattle.sheet.proofs.Stores.{one_stored, none_stored}
use Rattle.sheet.proofs.hex.put_hex.Goals as goal

pub loop-i-init : goal.loop-i-init
loop-i-init c = (omega arith, (refl, refl))

pub loop-i-preserved : goal.loop-i-preserved
loop-i-preserved c = let v = c.loop-i.invariant in
    (omega arith, (simp length-set v.1.0, rw c.glyph.ensures (sym (one_stored _ _ _ _ c.loop-i-test.true) ∙ v.1.1)))

pub shape_of-out : goal.shape_of-out
shape_of-out c = c.loop-i.invariant.1.0

pub returns : goal.returns
returns c = sym (none_stored _ _ _ _ c.loop-i-test.false) ∙ c.loop-i.invariant.1.1
