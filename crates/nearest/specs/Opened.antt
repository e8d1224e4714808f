-- For theorems by computation: naming `opened` opens every definition of this crate and of those below it.
use Rattle.float.specs.Opened as float_below
use Rattle.nearest.specs.Order as order
use Rattle.nearest.specs.Nearest as nearest

unfoldable pub opened : Unit {0}
unfolding float_below.opened order.◌then◌ order.insert order.in_order nearest.square_sum nearest.sums nearest.comes_before nearest.order nearest.coordinate
    nearest.coordinates nearest.answerable nearest.enough nearest.nearest_check
opened = tt
