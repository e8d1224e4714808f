-- For theorems by computation: naming `opened` opens every definition of this crate and of those below it.
use Rattle.root.specs.Opened as root_below
use Rattle.charge.specs.Least as least
use Rattle.charge.specs.Kilometres as kilometres
use Rattle.charge.specs.Shares as shares
use Rattle.charge.specs.Charge as charge

unfoldable pub opened : Unit {0}
unfolding root_below.opened least.count_up least.least kilometres.reaches kilometres.kilometres shares.shares charge.refused charge.travel_charge
opened = tt
