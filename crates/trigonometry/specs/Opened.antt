-- For theorems by computation: naming `opened` opens every definition of this crate and of those below it.
use Rattle.sums.specs.Opened as sums_below
use Rattle.trigonometry.specs.Trigonometry as trigonometry
use Rattle.trigonometry.specs.Turns as turns

unfoldable pub opened : Unit {0}
unfolding sums_below.opened trigonometry.within_turn trigonometry.quarters trigonometry.rest trigonometry.sine_sum trigonometry.cosine_sum
    trigonometry.sine_at trigonometry.cosine_at trigonometry.quarters_of trigonometry.rest_of trigonometry.sine trigonometry.cosine
    trigonometry.tangent turns.rem_euclid
opened = tt
