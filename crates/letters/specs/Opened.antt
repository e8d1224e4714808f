-- For theorems by computation: naming `opened` opens every definition of this crate and of those below it.
use Rattle.float.specs.Opened as float_below
use Rattle.letters.specs.Ascii as ascii
use Rattle.letters.specs.Letters as letters
use Rattle.letters.specs.Uses as uses

unfoldable pub opened : Unit {0}
unfolding float_below.opened ascii.ascii letters.one_of letters.is_way letters.is_kind letters.way_of letters.kind_of letters.way_from
    letters.kind_from uses.uses_lat0 uses.uses_parallels uses.used
opened = tt
