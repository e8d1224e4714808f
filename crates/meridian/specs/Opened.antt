-- For theorems by computation: naming `opened` opens every definition of this crate and of those below it.
use Rattle.root.specs.Opened as root_below
use Rattle.trigonometry.specs.Opened as trigonometry_below
use Rattle.meridian.specs.Meridian as meridian

unfoldable pub opened : Unit {0}
unfolding root_below.opened trigonometry_below.opened meridian.from_end meridian.polyval meridian.clenshaw meridian.third_flattening
    meridian.arc_factor meridian.rows meridian.sine_coefficients meridian.coefficients meridian.meridian_arc_coefficients meridian.meridian_arc
    meridian.inverse_meridian_arc
opened = tt
