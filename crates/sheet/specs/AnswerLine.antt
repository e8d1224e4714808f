-- An answer line: the number in decimal, the two results as bit fields, byte 10.
use Rattle.std.specs.Prelude.{ℕ, ◌+◌, ◌/◌, ◌%◌, List, [], ◌∷◌, ◌++◌, cond, ltb, Float}
use Rattle.std.specs.Float.Ieee.{to_bits}
use Rattle.std.specs.Float.{binary64}
use Rattle.refusals.specs.Refusals.{number}
use Rattle.projection.specs.Answer.{Answer}
use Rattle.projection.specs.Results.{first_result, second_result}
use Rattle.sheet.specs.Hex.{digits}

-- the decimal digits of a number below 1,000; 48 is the digit 0
unfoldable pub decimal : ℕ → List ℕ
decimal n =
    cond (ltb n 10) ((48 + n) ∷ [])
    (cond (ltb n 100) ((48 + n / 10) ∷ (48 + n % 10) ∷ []) ((48 + n / 100) ∷ (48 + n / 10 % 10) ∷ (48 + n % 10) ∷ []))

-- a comma and sixteen digits; a NaN's are 7ff8000000000000
unfoldable pub bit_field : Float → List ℕ
bit_field x = 44 ∷ digits 16 (to_bits binary64 x)

unfoldable pub row : ℕ → Float → Float → List ℕ
row n p q = decimal n ++ (bit_field p ++ (bit_field q ++ (10 ∷ [])))

unfoldable pub answer_line : Answer → List ℕ
answer_line a = row (number a) (first_result a) (second_result a)
