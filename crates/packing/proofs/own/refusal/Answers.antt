-- The number of a refusal is the pattern at place 0.
use Rattle.packing.proofs.Marks.{refusal_marked}
use Rattle.packing.proofs.own.refusal.Goals as goal

pub returns : goal.returns
returns c = refusal_marked _ _ (rw (c.with_zeros.ensures, ← c.number.ensures) c.f64_of.ensures)
