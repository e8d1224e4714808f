-- For theorems by computation: naming `opened` opens every definition of this crate and of those below it.
use Rattle.trigonometry.specs.Opened as trigonometry_below
use Rattle.fixed.specs.Opened as fixed_below
use Rattle.ellipsoid.specs.Ellipsoid as ellipsoid
use Rattle.ellipsoid.specs.Names as names
use Rattle.ellipsoid.specs.Units as of_units

unfoldable pub opened : Unit {0}
unfolding trigonometry_below.opened fixed_below.opened ellipsoid.from_a_f ellipsoid.from_a_rf ellipsoid.sphere ellipsoid.inverse_flattening
    ellipsoid.b ellipsoid.e2 ellipsoid.e ellipsoid.n ellipsoid.ep2 ellipsoid.n_radius ellipsoid.m_radius names.named of_units.deg_to_rad
    of_units.rad_to_deg
opened = tt
