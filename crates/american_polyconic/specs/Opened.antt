-- For theorems by computation: naming `opened` opens every definition of this crate and of those below it.
use Rattle.ellipsoid.specs.Opened as ellipsoid_below
use Rattle.meridian.specs.Opened as meridian_below
use Rattle.projection.specs.Opened as projection_below
use Rattle.american_polyconic.specs.Newton as newton
use Rattle.american_polyconic.specs.AmericanPolyconic as polyconic

unfoldable pub opened : Unit {0}
unfolding ellipsoid_below.opened meridian_below.opened projection_below.opened newton.nu newton.moved newton.sphere_step newton.fraction
    newton.correction newton.ellipsoid_step newton.step newton.latitude polyconic.origin_arc polyconic.derived polyconic.built polyconic.new
    polyconic.scaled polyconic.sphere_forward polyconic.cone_radius polyconic.ellipsoid_forward polyconic.projected polyconic.forward
    polyconic.ordinate polyconic.sin_e polyconic.at_latitude polyconic.place polyconic.formula polyconic.inverse
opened = tt
