-- The polyconic's tolerances and its step limit.
use Rattle.std.specs.Prelude.{ℕ, ◌^◌, ◌≡◌, refl, [], ◌∷◌, Float}
use Rattle.std.specs.Float.Ieee.{of_bits, round}
use Rattle.float.specs.Operators.{f64}
use Rattle.float.specs.Constants.{ratio}

-- a latitude or an ordinate of at most this size counts as the equator's, and a cosine of at most this size as a pole's
abbrev pub EQUATOR_TOL : Float
EQUATOR_TOL = f64 0x3ddb7cdfd9d7bdbb

-- the iteration stops at a step of at most this size, and refuses a cosine below it
abbrev pub TOLERANCE : Float
TOLERANCE = f64 0x3d719799812dea11

abbrev pub STEPS : ℕ
STEPS = 20

pub constants : (EQUATOR_TOL ∷ TOLERANCE ∷ []) ≡ (ratio 1 (10 ^ 10) ∷ ratio 1 (10 ^ 12) ∷ [])
unfolding of_bits round
constants = refl
