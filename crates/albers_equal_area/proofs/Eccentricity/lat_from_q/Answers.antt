-- The rounds that are left give what all of them give, and a round that is given its two quotients is the definition's (`given_quotients`).
use mathlib.Core.Path.{◌∙◌}
use native.Mathlib.Omega.{arith}
use Rattle.projection.proofs.Steps.{converged, one_round, rounds_used_up}
use Rattle.albers_equal_area.specs.OnEllipsoid.{lat_from_q}
use Rattle.albers_equal_area.proofs.GivenQuotients.{given_quotients}
use Rattle.albers_equal_area.proofs.Eccentricity.lat_from_q.Goals as goal

pub returns-then-abs : goal.returns-then-abs
unfolding lat_from_q
returns-then-abs c = converged _ _ _ _ c.loop.invariant.1 c.loop-test.true (c.latitude_round-next.ensures ∙ given_quotients _ _ _ _) c.abs.ensures c.if-abs.true

pub loop-preserved : goal.loop-preserved
unfolding lat_from_q
loop-preserved c = (omega arith, one_round _ _ _ _ c.loop.invariant.1 c.loop-test.true (c.latitude_round-next.ensures ∙ given_quotients _ _ _ _) c.abs.ensures c.if-abs.false)

pub returns : goal.returns
unfolding lat_from_q
returns c = rounds_used_up _ _ _ _ _ c.loop.invariant.1 c.loop-test.false
