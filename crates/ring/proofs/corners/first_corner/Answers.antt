-- The first refusal among the corners still to come is that of them all, as those before them are answered.
use mathlib.Core.Path.{ap, ◌∙◌, sym}
use Rattle.refusals.proofs.Refused.{handed_on}
use Rattle.ring.specs.Tally.{first_of}
use Rattle.ring.proofs.InRingOrder.{all_pairs, first_apart, corners_next, corners_end, first_refused, first_stays, first_end, no_first}
use Rattle.ring.proofs.corners.first_corner.Goals as goal

pub returns-in_err-first : goal.returns-in_err-first
returns-in_err-first c =
    handed_on c.from_residual.ensures ∙ sym (no_first _ _ _ (first_apart _ _ _ _ c.requires.0 c.requires.1 _ _ c.place.ensures c.in_err-first.was))

pub loop-x-init : goal.loop-x-init
loop-x-init c =
    let all = all_pairs _ _ _ _ _ c.into_iter-x-iterator.ensures.into_iter_gives c.zip-x-items.ensures.first c.iter.ensures.rest c.zip-x-items.ensures.second.0 in
    rw (all.0, all.1) (ap first_of (first_apart _ _ _ _ c.requires.0 c.requires.1 _ _ c.place.ensures c.in_ok-first.was))

pub loop-x-preserved : goal.loop-x-preserved
loop-x-preserved c =
    c.loop-x.invariant ∙ first_stays _ _ _ _ (corners_next _ c.loop-x.x-iterator c.next.new.self _ c.next.ensures.steps _ c.in-Some.is _ _ c.place-in-loop-x.ensures c.in_ok-place.was)

pub returns-in_err-place : goal.returns-in_err-place
returns-in_err-place c =
    handed_on c.from_residual-in_err-place.ensures
    ∙ sym (c.loop-x.invariant ∙ first_refused _ _ _ _ (corners_next _ c.loop-x.x-iterator c.next.new.self _ c.next.ensures.steps _ c.in-Some.is _ _ c.place-in-loop-x.ensures c.in_err-place.was))

pub returns : goal.returns
returns c = sym (c.loop-x.invariant ∙ first_end _ _ (corners_end _ c.loop-x.x-iterator c.next.new.self _ c.next.ensures.steps c.in-None.is))
