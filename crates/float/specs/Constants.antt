-- The constants that several definitions share. They stand by their bits, as literals of the code do. `constants` below and `pi_between` of specs/Pi say
-- what each is.
use Rattle.std.specs.Prelude.{◌≡◌, refl, [], ◌∷◌, false, ℕ, Float}
use Rattle.std.specs.Float.{binary64}
use Rattle.std.specs.Float.Ieee.{round, of_bits, mul, div}
use Rattle.float.specs.Operators.{◌⊗◌, ◌⊘◌, f64}

abbrev pub +0 : Float
+0 = f64 0

abbrev pub one : Float
one = f64 0x3ff0000000000000

abbrev pub two : Float
two = f64 0x4000000000000000

abbrev pub three : Float
three = f64 0x4008000000000000

abbrev pub four : Float
four = f64 0x4010000000000000

abbrev pub half : Float
half = f64 0x3fe0000000000000

-- the f64 nearest to π (`pi_between` of specs/Pi)
abbrev pub PI : Float
PI = f64 0x400921fb54442d18

abbrev pub FRAC_PI_2 : Float
FRAC_PI_2 = f64 0x3ff921fb54442d18

abbrev pub FRAC_PI_4 : Float
FRAC_PI_4 = f64 0x3fe921fb54442d18

-- 01's LO: the f64 nearest to π/2 - FRAC_PI_2 (`pi_between`)
abbrev pub LO : Float
LO = f64 0x3c91a62633145c07

-- 01's T, a whole turn
abbrev pub TURN : Float
TURN = f64 0x401921fb54442d18

-- the f64 nearest to n / d
abbrev pub ratio : ℕ → ℕ → Float
ratio n d = round binary64 false n d

-- what the constants are: whole numbers and fractions by rounding, the others by one operation on PI
pub constants :
    (+0 ∷ one ∷ two ∷ three ∷ four ∷ half ∷ FRAC_PI_2 ∷ FRAC_PI_4 ∷ TURN ∷ [])
    ≡ (ratio 0 1 ∷ ratio 1 1 ∷ ratio 2 1 ∷ ratio 3 1 ∷ ratio 4 1 ∷ ratio 1 2 ∷ PI ⊘ two ∷ PI ⊘ four ∷ two ⊗ PI ∷ [])
unfolding of_bits round mul div
constants = refl
