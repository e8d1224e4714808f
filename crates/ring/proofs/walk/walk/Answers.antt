-- What is ahead, with what is done, is the whole; at the end nothing is ahead but the last edge.
use mathlib.Core.Path.{sym, ◌∙◌}
use Rattle.refusals.proofs.Refused.{handed_on}
use Rattle.ring.proofs.InRingOrder.{all_pairs}
use Rattle.ring.proofs.Walking as walking
use Rattle.ring.proofs.walk.walk.Goals as goal

pub loop-x-init : goal.loop-x-init
loop-x-init c =
    let all = all_pairs _ _ _ _ _ c.into_iter-x-iterator.ensures.into_iter_gives c.zip-x-items.ensures.first c.iter.ensures.rest c.zip-x-items.ensures.second.0 in
    walking.starts _ c.args.lon.now c.args.lat.now _ _ _ _ _ all.0 all.1 c.requires.sizes.1 c.requires.corners_answered c.start-t.ensures.value

pub returns-in_err-b : goal.returns-in_err-b
returns-in_err-b c = absurd (walking.none_refused _ _ c.next.new.self _ _ _ _ _ _ _ _ c.loop-x.invariant _ c.next.ensures.steps _ c.in-Some.is _ c.place.ensures _ c.in_err-b.was)

pub returns-in_err-u : goal.returns-in_err-u
returns-in_err-u c = let start = c.start-t.ensures in
    let stopped = sym c.cut.ensures.value ∙ c.in_err-u.was in
    rw (handed_on c.from_residual-in_err-u.ensures, ← start.easting_after, ← start.northing_after) record {
      value = walking.stops_there _ _ c.next.new.self _ _ _ _ _ _ _ _ c.loop-x.invariant _ c.next.ensures.steps _ c.in-Some.is _ c.place.ensures _ c.in_ok-b.was _ stopped;
      easting_laid = walking.stops_easts _ _ c.next.new.self _ _ _ _ _ _ _ _ c.loop-x.invariant _ c.next.ensures.steps _ c.in-Some.is _ c.place.ensures _ c.in_ok-b.was _ stopped _;
      northing_laid = walking.stops_norths _ _ c.next.new.self _ _ _ _ _ _ _ _ c.loop-x.invariant _ c.next.ensures.steps _ c.in-Some.is _ c.place.ensures _ c.in_ok-b.was _ stopped _;
    }

pub count-t-requires : goal.count-t-requires
count-t-requires c =
    walking.few_so_far _ _ c.next.new.self _ _ _ _ _ _ _ _ c.loop-x.invariant _ c.next.ensures.steps _ c.in-Some.is _ c.place.ensures _ c.in_ok-b.was _ (sym c.cut.ensures.value ∙ c.in_ok-u.was)

pub loop-x-preserved : goal.loop-x-preserved
loop-x-preserved c = let one = c.count-t.ensures in
    walking.goes_round _ _ c.next.new.self _ _ _ _ _ _ _ _ c.loop-x.invariant _ c.next.ensures.steps _ c.in-Some.is _ c.place.ensures _ c.in_ok-b.was _ _ _ _ _ _ (sym c.cut.ensures.value ∙ c.in_ok-u.was) one.value
    c.cut.ensures.easting_laid one.easting_after c.cut.ensures.northing_laid one.northing_after

pub returns : goal.returns
returns c = let start = c.start-t.ensures in
    rw (← start.easting_after, ← start.northing_after) record {
      value = walking.ends _ _ c.next.new.self _ _ _ _ _ _ _ _ c.loop-x.invariant _ c.next.ensures.steps c.in-None.is _ c.cut-2.ensures.value;
      easting_laid = walking.ends_easts _ _ c.next.new.self _ _ _ _ _ _ _ _ c.loop-x.invariant _ c.next.ensures.steps c.in-None.is _ c.cut-2.ensures.easting_laid;
      northing_laid = walking.ends_norths _ _ c.next.new.self _ _ _ _ _ _ _ _ c.loop-x.invariant _ c.next.ensures.steps c.in-None.is _ c.cut-2.ensures.northing_laid;
    }
