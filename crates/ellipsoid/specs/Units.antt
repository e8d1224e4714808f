-- Degrees and radians, in the source's order of operations.
use Rattle.std.specs.Prelude.{◌≡◌, refl, Float}
use Rattle.std.specs.Float.Ieee.{of_bits, round}
use Rattle.float.specs.Operators.{◌⊗◌, ◌⊘◌, f64}
use Rattle.float.specs.Constants.{PI, ratio}

abbrev pub half_turn : Float
half_turn = f64 0x4066800000000000

pub constants : half_turn ≡ ratio 180 1
unfolding of_bits round
constants = refl

unfoldable pub deg_to_rad : Float → Float
deg_to_rad deg = deg ⊗ PI ⊘ half_turn

unfoldable pub rad_to_deg : Float → Float
rad_to_deg rad = rad ⊗ half_turn ⊘ PI
