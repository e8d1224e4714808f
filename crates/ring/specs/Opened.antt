-- For theorems by computation: naming `opened` opens every definition of this crate and of those below it.
use Rattle.kinds.specs.Opened as kinds_below
use Rattle.ring.specs.Edge as edge
use Rattle.ring.specs.Ring as ring

unfoldable pub opened : Unit {0}
unfolding kinds_below.opened edge.place edge.halfway edge.uncut edge.midpoint edge.join edge.split edge.edge ring.before ring.corners ring.around
    ring.closed ring.ring ring.sum_from ring.area ring.keeps_areas ring.ring_fault ring.ring_area
opened = tt
