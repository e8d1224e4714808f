-- The brackets of the four formulas (Snyder chapter 13, IOGP 7-2 method 9806): series in the distance from the central meridian.
use Rattle.std.specs.Prelude.{Float}
use Rattle.float.specs.Operators.{◌⊕◌, ◌⊖◌, ◌⊗◌, ◌⊘◌}
use Rattle.float.specs.Constants.{one, two, three}
use Rattle.cassini_soldner.specs.Constants.{c5, c6, c8, c15, c24, c120}

-- Snyder 13-7: A - T A³/6 - (8 - T + 8C) T A⁵/120
unfoldable pub easting_series : Float → Float → Float → Float
easting_series a_coeff t c =
    let a2 = a_coeff ⊗ a_coeff in
    let a4 = a2 ⊗ a2 in
    a_coeff ⊖ t ⊗ a2 ⊗ a_coeff ⊘ c6 ⊖ (c8 ⊖ t ⊕ c8 ⊗ c) ⊗ t ⊗ a4 ⊗ a_coeff ⊘ c120

-- Snyder 13-8: A²/2 + (5 - T + 6C) A⁴/24
unfoldable pub northing_series : Float → Float → Float → Float
northing_series a_coeff t c =
    let a2 = a_coeff ⊗ a_coeff in
    let a4 = a2 ⊗ a2 in
    a2 ⊘ two ⊕ (c5 ⊖ t ⊕ c6 ⊗ c) ⊗ a4 ⊘ c24

-- Snyder 13-11: D - T₁ D³/3 + (1 + 3T₁) T₁ D⁵/15
unfoldable pub longitude_series : Float → Float → Float
longitude_series d t1 =
    let d2 = d ⊗ d in
    let d4 = d2 ⊗ d2 in
    d ⊖ t1 ⊗ d2 ⊗ d ⊘ three ⊕ (one ⊕ three ⊗ t1) ⊗ t1 ⊗ d4 ⊗ d ⊘ c15

-- Snyder 13-10: D²/2 - (1 + 3T₁) D⁴/24
unfoldable pub latitude_series : Float → Float → Float
latitude_series d t1 =
    let d2 = d ⊗ d in
    let d4 = d2 ⊗ d2 in
    d2 ⊘ two ⊖ (one ⊕ three ⊗ t1) ⊗ d4 ⊘ c24
