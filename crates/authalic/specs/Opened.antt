-- For theorems by computation: naming `opened` opens every definition of this crate and of those below it.
use Rattle.trigonometry.specs.Opened as trigonometry_below
use Rattle.fixed.specs.Opened as fixed_below
use Rattle.authalic.specs.Authalic as authalic

unfoldable pub opened : Unit {0}
unfolding trigonometry_below.opened fixed_below.opened authalic.spherical authalic.ellipsoidal_q authalic.authalic_q authalic.authalic_latitude
    authalic.authalic_series authalic.geodetic_from_authalic
opened = tt
