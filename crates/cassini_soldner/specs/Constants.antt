-- The constants of Cassini-Soldner's definitions. They stand by their bits, as literals of the code do; `constants` says what each stands for.
use Rattle.std.specs.Prelude.{◌≡◌, refl, [], ◌∷◌, ◌^◌, Float}
use Rattle.std.specs.Float.Ieee.{of_bits, round}
use Rattle.float.specs.Operators.{f64}
use Rattle.float.specs.Constants.{ratio}

-- the footpoint is a pole where the cosine of its latitude is below this in size
abbrev pub POLE_EPSILON : Float
POLE_EPSILON = f64 0x3d719799812dea11

abbrev pub c5 : Float
c5 = f64 0x4014000000000000

abbrev pub c6 : Float
c6 = f64 0x4018000000000000

abbrev pub c8 : Float
c8 = f64 0x4020000000000000

abbrev pub c15 : Float
c15 = f64 0x402e000000000000

abbrev pub c16 : Float
c16 = f64 0x4030000000000000

abbrev pub c21 : Float
c21 = f64 0x4035000000000000

abbrev pub c24 : Float
c24 = f64 0x4038000000000000

abbrev pub c27 : Float
c27 = f64 0x403b000000000000

abbrev pub c32 : Float
c32 = f64 0x4040000000000000

abbrev pub c35 : Float
c35 = f64 0x4041800000000000

abbrev pub c45 : Float
c45 = f64 0x4046800000000000

abbrev pub c55 : Float
c55 = f64 0x404b800000000000

abbrev pub c64 : Float
c64 = f64 0x4050000000000000

abbrev pub c96 : Float
c96 = f64 0x4058000000000000

abbrev pub c120 : Float
c120 = f64 0x405e000000000000

abbrev pub c151 : Float
c151 = f64 0x4062e00000000000

abbrev pub c256 : Float
c256 = f64 0x4070000000000000

abbrev pub c512 : Float
c512 = f64 0x4080000000000000

abbrev pub c1024 : Float
c1024 = f64 0x4090000000000000

abbrev pub c1097 : Float
c1097 = f64 0x4091240000000000

abbrev pub c3072 : Float
c3072 = f64 0x40a8000000000000

pub constants :
    (POLE_EPSILON ∷ c5 ∷ c6 ∷ c8 ∷ c15 ∷ c16 ∷ c21 ∷ c24 ∷ c27 ∷ c32 ∷ c35 ∷ c45 ∷ c55 ∷ c64 ∷ c96 ∷ c120 ∷ c151 ∷ c256 ∷ c512 ∷ c1024 ∷ c1097 ∷ c3072 ∷ [])
    ≡ (ratio 1 (10 ^ 12) ∷ ratio 5 1 ∷ ratio 6 1 ∷ ratio 8 1 ∷ ratio 15 1 ∷ ratio 16 1 ∷ ratio 21 1 ∷ ratio 24 1 ∷ ratio 27 1 ∷ ratio 32 1 ∷ ratio 35 1 ∷ ratio 45 1 ∷ ratio 55 1 ∷ ratio 64 1 ∷ ratio 96 1 ∷ ratio 120 1 ∷ ratio 151 1 ∷ ratio 256 1 ∷ ratio 512 1 ∷ ratio 1024 1 ∷ ratio 1097 1 ∷ ratio 3072 1 ∷ [])
unfolding of_bits round
constants = refl
