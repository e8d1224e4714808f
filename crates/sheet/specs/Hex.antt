-- Sixteen lowercase hexadecimal digits, to bits and back.
use Rattle.std.specs.Prelude.{ℕ, zero, suc, ◌+◌, ◌-◌, ◌*◌, ◌/◌, ◌%◌, cond, ◌&&◌, length, leb, ltb, eqb, Option, Some, None}
use mathlib.Core.List.{List, [], ◌∷◌, ◌++◌, foldl}

-- 0 to 9 at the bytes 48 to 57, 10 to 15 at 97 to 102, 16 elsewhere
unfoldable pub digit_value : ℕ → ℕ
digit_value b = cond (leb 48 b && leb b 57) (b - 48) (cond (leb 97 b && leb b 102) (b - 87) 16)

-- one digit more
abbrev pub with_value : ℕ → ℕ → Option ℕ
with_value n d = cond (ltb d 16) (Some (n * 16 + d)) None

abbrev pub with_digit : Option ℕ → ℕ → Option ℕ
with_digit (Some n) b = with_value n (digit_value b)
with_digit None b = None

-- what sixteen digits say; none where one of sixteen bytes is no digit, or where they are more or fewer
unfoldable pub read_hex : List ℕ → Option ℕ
read_hex l = cond (eqb (length l) 16) (foldl with_digit (Some 0) l) None

-- the digit of a value below 16
unfoldable pub glyph : ℕ → ℕ
glyph d = cond (ltb d 10) (48 + d) (87 + d)

-- the last k digits of n
unfoldable pub digits : ℕ → ℕ → List ℕ
digits zero n = []
digits (suc k) n = digits k (n / 16) ++ (glyph (n % 16) ∷ [])
