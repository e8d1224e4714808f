-- Too short a buffer is not touched; any other has the room that is asked for.
use mathlib.Core.Path.{refl}
use native.Mathlib.Omega.{arith}
use Rattle.sheet.proofs.sheet_text.answer_sheet_into.Goals as goal

pub put_sheet-requires : goal.put_sheet-requires
put_sheet-requires c = c.if-out-lt-ROOM.false

pub returns-then-out-lt-ROOM : goal.returns-then-out-lt-ROOM
returns-then-out-lt-ROOM c = let short = c.if-out-lt-ROOM.true in
    (record { enough = λ h. absurd (omega (arith, h, short)); short = λ h. (refl, refl) }, λ h. absurd (omega (arith, h, short)))

pub returns-else-out-lt-ROOM : goal.returns-else-out-lt-ROOM
returns-else-out-lt-ROOM c = let put = c.put_sheet.ensures in
    (record { enough = λ h. put.0; short = λ h. absurd (omega (arith, h, c.if-out-lt-ROOM.false)) }, λ h. put.1)
