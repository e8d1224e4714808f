-- Place by place, what the projection answers, which for an inverse is on the map.
use Rattle.kinds.specs.Kinds.{answer_in}
use Rattle.capi.proofs.Fills.{Filling}
use Rattle.capi.proofs.Maps.{Mapping}
use Rattle.capi.proofs.columns.fill.Given as goal

abbrev pub invariant-loop-i : goal.invariant-loop-i
invariant-loop-i l = Filling (answer_in l.frame l.way l.projection) l.u l.v l.p l.q l.numbers l.i × Mapping l.frame l.way l.projection l.u l.v l.i
