-- For theorems by computation: naming `opened` opens every definition of this crate and of those below it.
use Rattle.ellipsoid.specs.Opened as ellipsoid_below
use Rattle.authalic.specs.Opened as authalic_below
use Rattle.projection.specs.Opened as projection_below
use Rattle.equal_earth.specs.EqualEarth as eqearth

unfoldable pub opened : Unit {0}
unfolding ellipsoid_below.opened authalic_below.opened projection_below.opened eqearth.y_derivative eqearth.y_over_psi eqearth.polar_q eqearth.derived
    eqearth.new eqearth.sin_beta eqearth.projected eqearth.forward eqearth.newton eqearth.psi_of_northing eqearth.longitude_from_origin
    eqearth.latitude eqearth.place eqearth.scaled_place eqearth.formula eqearth.inverse
opened = tt
