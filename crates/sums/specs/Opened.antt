-- For theorems by computation: naming `opened` opens every definition of this crate and of those below it.
use Rattle.float.specs.Opened as float_below
use Rattle.sums.specs.NestedSum as nested_sum
use Rattle.sums.specs.Factorials as factorials

unfoldable pub opened : Unit {0}
unfolding float_below.opened nested_sum.nested nested_sum.alternating factorials.factorial factorials.inverse_factorial factorials.factorial_terms
opened = tt
