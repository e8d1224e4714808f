-- The value read so far, and the digits that are left, make the whole.
use Prim.Native.Nat.{◌-◌}
use Rattle.sheet.proofs.Digits.{Reading}
use Rattle.sheet.proofs.hex.read_hex.Given as goal

abbrev pub invariant-loop-b : goal.invariant-loop-b
invariant-loop-b l = Reading l.field l.value l.b-index

abbrev pub decreases-loop-b : goal.decreases-loop-b
decreases-loop-b l = 16 - l.b-index
