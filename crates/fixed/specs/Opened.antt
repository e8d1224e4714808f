-- For theorems by computation: naming `opened` opens every definition of this crate and of those below it.
use Rattle.root.specs.Opened as root_below
use Rattle.sums.specs.Opened as sums_below
use Rattle.fixed.specs.Arctangent as arctangent
use Rattle.fixed.specs.Logarithm as logarithm
use Rattle.fixed.specs.LnTwo as ln_two
use Rattle.fixed.specs.Powers as powers

unfoldable pub opened : Unit {0}
unfolding root_below.opened sums_below.opened arctangent.half_angle arctangent.arc arctangent.arctangent arctangent.arcsine arctangent.on_axis
    arctangent.axis_angle arctangent.atan2 logarithm.places logarithm.mantissa logarithm.exponent logarithm.ln_near_one logarithm.ln_parts
    logarithm.ln ln_two.artanh_low ln_two.artanh_high ln_two.ln_2_low ln_two.ln_2_high powers.powf_3_2
opened = tt
