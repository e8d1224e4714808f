-- 01's bound on latitudes: π/2 + 1e-12, summed once.
use Rattle.std.specs.Prelude.{◌≡◌, refl, [], ◌∷◌, ◌^◌, Float}
use Rattle.std.specs.Float.Ieee.{of_bits, round, add}
use Rattle.float.specs.Operators.{◌⊕◌, f64}
use Rattle.float.specs.Constants.{FRAC_PI_2, ratio}

abbrev LAT_EPSILON : Float
LAT_EPSILON = f64 0x3d719799812dea11

abbrev pub LAT_BOUND : Float
LAT_BOUND = f64 0x3ff921fb54443eb0

pub constants : (LAT_EPSILON ∷ LAT_BOUND ∷ []) ≡ (ratio 1 (10 ^ 12) ∷ FRAC_PI_2 ⊕ LAT_EPSILON ∷ [])
unfolding of_bits round add
constants = refl
