-- The rounds that are left give what all of them give.
use native.Mathlib.Omega.{arith}
use Rattle.projection.proofs.Steps.{converged, one_round}
use Rattle.equal_earth.specs.EqualEarth.{psi_of_northing}
use Rattle.equal_earth.proofs.EqualEarth.psi_of_northing.Goals as goal

pub returns-then-abs : goal.returns-then-abs
unfolding psi_of_northing
returns-then-abs c = converged _ _ _ _ c.loop.invariant.1 c.loop-test.true c.newton-next.ensures c.abs.ensures c.if-abs.true

pub loop-preserved : goal.loop-preserved
unfolding psi_of_northing
loop-preserved c = (omega arith, one_round _ _ _ _ c.loop.invariant.1 c.loop-test.true c.newton-next.ensures c.abs.ensures c.if-abs.false)
