-- A kind that has none is told by the definition; else what the inverse gives, which is on the map and inside the area.
use Rattle.kinds.proofs.OffTheMap.{gives_on_the_map, missing_on_the_map, gives_second, has_none}
use Rattle.kinds.proofs.Projection.inverse_on_map.Goals as goal

pub returns-then-has_second_inverse : goal.returns-then-has_second_inverse
returns-then-has_second_inverse c = let held = c.inverse_in.ensures in
    (gives_second _ _ _ c.has_second_inverse.ensures c.if-has_second_inverse.true held.0, gives_on_the_map _ _ _ _ (held.1, held.2))

pub returns-else-has_second_inverse : goal.returns-else-has_second_inverse
returns-else-has_second_inverse c = (has_none _ _ _ c.has_second_inverse.ensures c.if-has_second_inverse.false, missing_on_the_map _ _ _)
