-- For theorems by computation: naming `opened` opens every definition of this crate and of those below it.
use Rattle.ellipsoid.specs.Opened as ellipsoid_below
use Rattle.meridian.specs.Opened as meridian_below
use Rattle.projection.specs.Opened as projection_below
use Rattle.guam_projection.specs.GuamProjection as guam

unfoldable pub opened : Unit {0}
unfolding ellipsoid_below.opened meridian_below.opened projection_below.opened guam.derived guam.checked guam.built guam.new guam.projected guam.forward
    guam.round_from guam.repeated guam.rounds guam.at_round guam.place guam.formula guam.inverse
opened = tt
