-- None of the bytes before i is c.
use Rattle.std.proofs.Common.{add-one, sym}
use Rattle.std.proofs.lemmas.List.{take_rest}
use Rattle.sheet.proofs.Parts.{first_c, no_c}
use Rattle.sheet.proofs.fields.split_once.Goals as goal

pub returns-then-b-c : goal.returns-then-b-c
returns-then-b-c c =
    let found = first_c c.args.c c.args.s.now c.loop-i.i c.loop-i-test.true c.if-b-c.true c.loop-i.invariant in
    record { before = found.0; past = rw (take_rest, add-one) (sym found.1) }

pub returns : goal.returns
returns c =
    let none = no_c c.args.c c.args.s.now c.loop-i.i c.loop-i-test.false c.loop-i.invariant in record { before = none.0; past = sym none.1 }
