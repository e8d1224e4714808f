-- The digits that are left to write make the whole text with those written.
use Prim.Native.Nat.{◌≤◌}
use mathlib.Core.Path.{◌≡◌}
use lib.ListN.{length}
use lib.Seq.{sets}
use Rattle.sheet.specs.Hex.{digits}
use Rattle.sheet.proofs.hex.put_hex.Given as goal

abbrev pub invariant-loop-i : goal.invariant-loop-i
invariant-loop-i l = (l.i ≤ 16) × ((length l.out ≡ length l.initial.out) × (sets l.out l.at (digits l.i l.rest) ≡ sets l.initial.out l.at (digits 16 l.bits)))

abbrev pub decreases-loop-i : goal.decreases-loop-i
decreases-loop-i l = l.i
