-- Sine, cosine and tangent (document 01, Fixed functions): the exact remainder takes off whole turns, quarter turns are counted, and two nested sums do the rest.
use Rattle.std.specs.Prelude.{◌≡◌, refl, false, cond, [], ◌∷◌, ℕ, ◌+◌, ◌*◌, ◌%◌, pos, negsuc, get_or, Float}
use Rattle.std.specs.Float.{nan, fin, binary64}
use Rattle.std.specs.Float.Ieee.{neg, mul, round, of_bits, of_int}
use Rattle.std.specs.Float.Ieee.Scale.{finite}
use Rattle.float.specs.Operators.{◌⊕◌, ◌⊖◌, ◌⊗◌, ◌⊘◌, ◌fmod◌, ◌≺◌, f64}
use Rattle.float.specs.Constants.{one, three, FRAC_PI_2, FRAC_PI_4, LO, TURN, ratio}
use Rattle.float.specs.Sign.{negative, abs}
use Rattle.sums.specs.Counting.{bit}
use Rattle.sums.specs.NestedSum.{nested}
use Rattle.sums.specs.Factorials.{factorial_terms}

abbrev pub five : Float
five = f64 0x4014000000000000

abbrev pub seven : Float
seven = f64 0x401c000000000000

-- 01's z, from |x|: its remainder by a turn if it is above one turn
unfoldable pub within_turn : Float → Float
within_turn z = cond (TURN ≺ z) (z fmod TURN) z

-- 01's k: how many of the f64 products 1, 3, 5, 7 times FRAC_PI_4 z exceeds
unfoldable pub quarters : Float → ℕ
quarters z = bit (FRAC_PI_4 ≺ z) + bit (three ⊗ FRAC_PI_4 ≺ z) + bit (five ⊗ FRAC_PI_4 ≺ z) + bit (seven ⊗ FRAC_PI_4 ≺ z)

-- 01's r: z less k quarter turns
unfoldable pub rest : Float → ℕ → Float
rest z k = let n = of_int binary64 (pos k) in (z ⊖ n ⊗ FRAC_PI_2) ⊖ n ⊗ LO

-- 01's S: r + (r×w)×P, where P is from -1/3! to 1/17!
unfoldable pub sine_sum : Float → Float
sine_sum r = let w = r ⊗ r in r ⊕ (r ⊗ w) ⊗ nested w (factorial_terms 3)

-- 01's C: 1 + w×Q, where Q is from -1/2! to 1/16!
unfoldable pub cosine_sum : Float → Float
cosine_sum r = let w = r ⊗ r in one ⊕ w ⊗ nested w (factorial_terms 2)

-- the one of four values that stands at k % 4
abbrev pub by_quarter : ℕ → Float → Float → Float → Float → Float
by_quarter k a b c d = get_or (a ∷ b ∷ c ∷ d ∷ []) (k % 4) nan

-- sine and cosine of k quarter turns and r
unfoldable pub sine_at : ℕ → Float → Float
sine_at k r = by_quarter k (sine_sum r) (cosine_sum r) (neg (sine_sum r)) (neg (cosine_sum r))

unfoldable pub cosine_at : ℕ → Float → Float
cosine_at k r = by_quarter k (cosine_sum r) (neg (sine_sum r)) (neg (cosine_sum r)) (sine_sum r)

-- 01's k and r of a finite x
unfoldable pub quarters_of : Float → ℕ
quarters_of x = quarters (within_turn (abs x))

unfoldable pub rest_of : Float → Float
rest_of x = let z = within_turn (abs x) in rest z (quarters z)

-- a number that is not finite gives NaN; sine is negated where x's sign bit is set
unfoldable pub sine : Float → Float
sine x = let s = sine_at (quarters_of x) (rest_of x) in cond (finite x) (cond (negative x) (neg s) s) nan

unfoldable pub cosine : Float → Float
cosine x = cond (finite x) (cosine_at (quarters_of x) (rest_of x)) nan

unfoldable pub tangent : Float → Float
tangent x = sine x ⊘ cosine x

-- FRAC_PI_4 is this number times 2^-50
abbrev digits : ℕ
digits = 0x3243f6a8885a3

-- `five` and `seven` are 5 and 7, and the products of `quarters` and of `rest` are exact: `fin false m e` is m×2^e, with an odd m
pub exact_products :
    (five ∷ seven ∷ FRAC_PI_4 ∷ three ⊗ FRAC_PI_4 ∷ five ⊗ FRAC_PI_4 ∷ seven ⊗ FRAC_PI_4
    ∷ FRAC_PI_2 ∷ of_int binary64 (pos 2) ⊗ FRAC_PI_2 ∷ of_int binary64 (pos 3) ⊗ FRAC_PI_2 ∷ of_int binary64 (pos 4) ⊗ FRAC_PI_2 ∷ [])
    ≡ (ratio 5 1 ∷ ratio 7 1
    ∷ fin false digits (negsuc 49) ∷ fin false (3 * digits) (negsuc 49) ∷ fin false (5 * digits) (negsuc 49) ∷ fin false (7 * digits) (negsuc 49)
    ∷ fin false digits (negsuc 48) ∷ fin false digits (negsuc 47) ∷ fin false (3 * digits) (negsuc 48) ∷ fin false digits (negsuc 46) ∷ [])
unfolding of_bits round mul of_int
exact_products = refl
