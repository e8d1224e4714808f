-- The two standard parallels and the cone constant n, on an ellipsoid and on a sphere alike.
use Rattle.std.specs.Prelude.{◌≡◌, refl, [], ◌∷◌, cond, ◌^◌, Float}
use Rattle.std.specs.Float.Ieee.{of_bits, round}
use Rattle.float.specs.Operators.{◌⊖◌, ◌≺◌, f64}
use Rattle.float.specs.Constants.{ratio}
use Rattle.float.specs.Sign.{abs}
use Rattle.trigonometry.specs.Trigonometry.{sine}

-- standard parallels that are nearer than this count as one
abbrev pub ONE_PARALLEL : Float
ONE_PARALLEL = f64 0x3ddb7cdfd9d7bdbb

-- a cone constant below this in size is refused
abbrev pub NO_CONE : Float
NO_CONE = f64 0x3d719799812dea11

pub constants : (ONE_PARALLEL ∷ NO_CONE ∷ []) ≡ (ratio 1 (10 ^ 10) ∷ ratio 1 (10 ^ 12) ∷ [])
unfolding of_bits round
constants = refl

-- sin φ1 where the parallels count as one, else the n of two
unfoldable pub cone_constant : Float → Float → Float → Float
cone_constant lat1 lat2 of_two = cond (abs (lat1 ⊖ lat2) ≺ ONE_PARALLEL) (sine lat1) of_two
