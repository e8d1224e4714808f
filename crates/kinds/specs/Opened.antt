-- For theorems by computation: naming `opened` opens every definition of this crate and of those below it.
use Rattle.letters.specs.Opened as letters_below
use Rattle.equal_earth.specs.Opened as equal_earth_below
use Rattle.albers_equal_area.specs.Opened as albers_below
use Rattle.lambert_azimuthal_equal_area.specs.Opened as lambert_below
use Rattle.cassini_soldner.specs.Opened as cassini_below
use Rattle.american_polyconic.specs.Opened as polyconic_below
use Rattle.guam_projection.specs.Opened as guam_below
use Rattle.kinds.specs.Kinds as kinds

unfoldable pub opened : Unit {0}
unfolding letters_below.opened equal_earth_below.opened albers_below.opened lambert_below.opened cassini_below.opened polyconic_below.opened
    guam_below.opened kinds.plain kinds.made kinds.new kinds.forward_of kinds.forward kinds.formula_of kinds.formula_in kinds.inverse_of kinds.inverse_in
    kinds.second_of kinds.has_second_inverse kinds.inverse_on_map kinds.answer_in kinds.refused kinds.build kinds.project kinds.with_area kinds.build_in_area
opened = tt
