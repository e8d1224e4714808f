-- For theorems by computation: naming `opened` opens every definition of this crate and of those below it.
use Rattle.float.specs.Opened as float_below
use Rattle.root.specs.Root as root
use Rattle.root.specs.Plane as plane

unfoldable pub opened : Unit {0}
unfolding float_below.opened root.integer_root root.nearest_root root.root_units root.root plane.distance
opened = tt
