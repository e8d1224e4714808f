-- Filled where the lengths are one, else left alone.
use native.Mathlib.Omega.{arith}
use Rattle.capi.proofs.Lengths.{one_length, filled, kept}
use Rattle.capi.proofs.columns.column.Goals as goal

pub fill-requires : goal.fill-requires
fill-requires c = let a = c.args in
    one_length a.u.now a.v.now a.p.now a.q.now a.numbers.now c.if-v-n.true

pub returns-then-v-n : goal.returns-then-v-n
returns-then-v-n c = let held = c.fill.ensures in
    (filled _ _ _ _ _ _ _ _ _ c.if-v-n.true (held.0, held.1, held.2), λ z. held.3)

pub returns-else-v-n : goal.returns-else-v-n
returns-else-v-n c = rw c.number.ensures (kept _ _ _ _ _ _ c.if-v-n.false, λ z. absurd (omega (arith, z)))
