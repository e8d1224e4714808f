-- Place by place, what the projection answers, which for an inverse is on the map.
use Prim.Native.Nat.{◌≤◌}
use native.Mathlib.Omega.{arith}
use lib.ListN.{length}
use Rattle.capi.proofs.Fills.{starts, goes_on, ends}
use Rattle.capi.proofs.Maps.{maps_on, maps_all}
use Rattle.capi.proofs.columns.fill.Goals as goal

pub loop-i-init : goal.loop-i-init
loop-i-init c = let h = c.requires in (starts _ _ _ _ _ _ h.0 h.1 h.2 h.3, λ m. m)

pub loop-i-preserved : goal.loop-i-preserved
loop-i-preserved c = let at = c.loop-i in (
  goes_on _ _ _ _ _ _ _ at.invariant.0 _ _ _ _ (omega arith) c.answer_in-answer.ensures.0 c.both_results.ensures c.number.ensures,
  maps_on _ _ _ _ _ _ at.invariant.1 _ (omega arith) (omega (arith, at.invariant.0.v_long)) _ c.answer_in-answer.ensures.0 c.answer_in-answer.ensures.1,
)

pub returns : goal.returns
returns c =
    let at = c.loop-i in
    let all : length c.args.u.now ≤ at.i = omega arith in
    let held = ends _ _ _ _ _ _ _ at.invariant.0 all in
    (held.0, held.1, held.2, maps_all _ _ _ _ _ _ at.invariant.1 all)
