-- The edge is its two halves and the point between them; each half has one cut less left.
use Prim.Native.Nat.{◌-◌}
use mathlib.Core.Path.{sym, ap, ◌∙◌}
use native.Mathlib.Omega.{arith}
use Rattle.std.specs.Prelude.{Ok}
use Rattle.refusals.proofs.Refused.{handed_on}
use Rattle.ring.specs.Edge.{easting_of, northing_of}
use Rattle.ring.specs.declared.tally.Tally.{Tally}
use Rattle.ring.proofs.Edges as edges
use Rattle.ring.proofs.Counting as counting
use Rattle.ring.proofs.Laying as laying
use Rattle.ring.proofs.cut.+cut.Goals as goal

pub returns-then-left-eq0 : goal.returns-then-left-eq0
returns-then-left-eq0 t c = let none = edges.edge_none _ _ _ _ c.if-left-eq0.true in
    record { value = counting.walked_none _ _ none; easting_laid = laying.laid_none easting_of _ _ _ none; northing_laid = laying.laid_none northing_of _ _ _ none }

pub returns-in_err-m : goal.returns-in_err-m
returns-in_err-m t c = let no = edges.edge_refused _ _ _ _ _ c.if-left-eq0.false c.midpoint.ensures _ c.in_err-m.was in
    record { value = handed_on c.from_residual.ensures ∙ counting.walked_refused _ _ _ no; easting_laid = laying.laid_never easting_of _ _ _ _ _ no; northing_laid = laying.laid_never northing_of _ _ _ _ _ no }

pub returns-in_default : goal.returns-in_default
returns-in_default t c = let none = edges.edge_uncut _ _ _ _ _ c.if-left-eq0.false c.midpoint.ensures (c.in_ok-m.was ∙ ap Ok c.in_default.is) in
    record { value = counting.walked_none _ _ none; easting_laid = laying.laid_none easting_of _ _ _ none; northing_laid = laying.laid_none northing_of _ _ _ none }

pub cut-requires : goal.cut-requires
cut-requires t c = let h = c.if-left-eq0.false in
    omega (arith, edges.pow_more _ h, c.requires)

pub returns-in_err-u : goal.returns-in_err-u
returns-in_err-u t c = let whole = edges.edge_cut _ _ _ _ _ c.if-left-eq0.false c.midpoint.ensures _ (c.in_ok-m.was ∙ ap Ok c.in-Some.is) in
    let stopped = sym c.cut.ensures.value ∙ c.in_err-u.was in
    rw whole record { value = handed_on c.from_residual-in_err-u.ensures ∙ counting.stops _ _ _ _ _ stopped; easting_laid = laying.laid_stopped easting_of _ _ _ _ _ _ _ _ stopped; northing_laid = laying.laid_stopped northing_of _ _ _ _ _ _ _ _ stopped }

pub count-v-requires : goal.count-v-requires
count-v-requires t c = let s = c.args in let done = sym c.cut.ensures.value ∙ c.in_ok-u.was in
    omega (arith, c.requires, edges.pow_more s.left c.if-left-eq0.false, edges.edge_few s.p (s.left - 1) s.a c.in-Some.m, counting.done_points _ _ _ done)

pub cut-requires-2 : goal.cut-requires-2
cut-requires-2 t c = let s = c.args in let done = sym c.cut.ensures.value ∙ c.in_ok-u.was in
    let h = c.if-left-eq0.false in
    let n = ap (λ (r : Tally). r.points) c.count-v.ensures.value ∙ counting.counted_points _ _ in
    omega (arith, n, c.requires, edges.pow_more s.left h, edges.edge_few s.p (s.left - 1) s.a c.in-Some.m, counting.done_points _ _ _ done)

pub returns : goal.returns
returns t c = let whole = edges.edge_cut _ _ _ _ _ c.if-left-eq0.false c.midpoint.ensures _ (c.in_ok-m.was ∙ ap Ok c.in-Some.is) in
    let done = sym c.cut.ensures.value ∙ c.in_ok-u.was in
    let one = c.count-v.ensures in
    rw whole record { value = counting.goes_on _ _ _ _ _ _ _ done one.value c.cut-2.ensures.value; easting_laid = laying.laid_join easting_of _ _ _ _ _ _ _ _ _ _ c.cut.ensures.easting_laid done one.easting_after one.value c.cut-2.ensures.easting_laid; northing_laid = laying.laid_join northing_of _ _ _ _ _ _ _ _ _ _ c.cut.ensures.northing_laid done one.northing_after one.value c.cut-2.ensures.northing_laid }
