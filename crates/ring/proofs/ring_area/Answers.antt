-- The first fault; or the points' own refusal; or the area and both buffers, once nothing more can be refused.
use mathlib.Core.Path.{refl, sym, ◌∙◌}
use mathlib.Core.Bool.{true, false}
use Rattle.refusals.proofs.Refused.{handed_on}
use Rattle.ring.specs.Edge.{easting_of, northing_of}
use Rattle.ring.specs.Stored.{stored}
use Rattle.ring.proofs.Measuring.{for_corners, for_walk, corners_refused, others_answered, ring_whole, round_stopped, round_done, says_fault, says_refused, says_so, both_long, holds_points}
use Rattle.ring.proofs.ring_area.Goals as goal

pub returns-in_err-ring_fault : goal.returns-in_err-ring_fault
unfolding stored
returns-in_err-ring_fault c =
    rw (handed_on c.from_residual.ensures) record { value = says_fault _ _ _ _ _ _ _ c.ring_fault.ensures c.in_err-ring_fault.was; easting_after = refl; northing_after = refl }

pub first_corner-requires : goal.first_corner-requires
first_corner-requires c = for_corners _ _ _ _ c.ring_fault.ensures c.in_ok-ring_fault.was

pub returns-in_err-first : goal.returns-in_err-first
unfolding stored
returns-in_err-first c = let fault = c.ring_fault.ensures in let none = c.in_ok-ring_fault.was in
    rw (handed_on c.from_residual-in_err-first.ensures) record { value = says_refused _ _ _ _ _ _ fault none _ (corners_refused _ _ _ _ fault none _ c.first_corner.ensures _ c.in_err-first.was); easting_after = refl; northing_after = refl }

pub walk-requires : goal.walk-requires
walk-requires c = let fault = c.ring_fault.ensures in let none = c.in_ok-ring_fault.was in
    record { sizes = for_walk _ _ _ _ fault none; corners_answered = others_answered _ _ _ _ fault none _ c.first_corner.ensures _ c.in_ok-first.was }

pub returns-in_err-t : goal.returns-in_err-t
unfolding stored
returns-in_err-t c = let fault = c.ring_fault.ensures in let none = c.in_ok-ring_fault.was in
    let whole = ring_whole _ _ _ _ fault none _ c.first_corner.ensures _ c.in_ok-first.was in
    rw (handed_on c.from_residual-in_err-t.ensures) record { value = says_refused _ _ _ _ _ _ fault none _ (whole ∙ round_stopped _ _ _ _ (sym c.walk.ensures.value ∙ c.in_err-t.was)); easting_after = refl; northing_after = refl }

pub walk-requires-then-points-easting : goal.walk-requires-then-points-easting
walk-requires-then-points-easting c = let fault = c.ring_fault.ensures in let none = c.in_ok-ring_fault.was in
    record { sizes = for_walk _ _ _ _ fault none; corners_answered = others_answered _ _ _ _ fault none _ c.first_corner.ensures _ c.in_ok-first.was }

pub returns-in_ok-walk : goal.returns-in_ok-walk
returns-in_ok-walk c = let fault = c.ring_fault.ensures in let none = c.in_ok-ring_fault.was in
    let whole = ring_whole _ _ _ _ fault none _ c.first_corner.ensures _ c.in_ok-first.was in
    let round = round_done _ _ _ (sym c.walk.ensures.value ∙ c.in_ok-t.was) in
    let long = both_long _ _ _ _ c.if-points-easting.true in
    let written = c.walk-then-points-easting.ensures in
    record { value = says_so _ _ _ _ _ _ fault none _ _ _ round whole _ c.area_of-area.ensures true (rw (← c.is_finite.ensures) c.if-points-easting.true); easting_after = holds_points easting_of _ _ _ _ _ _ _ _ round whole _ long.0 written.easting_laid; northing_after = holds_points northing_of _ _ _ _ _ _ _ _ round whole _ long.1 written.northing_laid }

pub returns-else-points-easting : goal.returns-else-points-easting
unfolding stored
returns-else-points-easting c = let fault = c.ring_fault.ensures in let none = c.in_ok-ring_fault.was in
    let whole = ring_whole _ _ _ _ fault none _ c.first_corner.ensures _ c.in_ok-first.was in
    let round = round_done _ _ _ (sym c.walk.ensures.value ∙ c.in_ok-t.was) in
    record { value = says_so _ _ _ _ _ _ fault none _ _ _ round whole _ c.area_of-area.ensures false (rw (← c.is_finite.ensures) c.if-points-easting.false); easting_after = refl; northing_after = refl }
