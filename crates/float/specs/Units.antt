-- A finite f64 as a whole number of units of 2 ^ -1074, the smallest f64 above 0: each is one, exactly.
use Rattle.std.specs.Prelude.{Bool, cond, ℕ, ◌*◌, ◌/◌, ◌^◌, ℤ, pos, neg_ℤ, Float}
use Rattle.std.specs.Float.{nan, inf, fin, Format, binary64}
use Rattle.std.specs.Float.Ieee.{low, up, down}
use Rattle.float.specs.Sign.{negative}

-- the size of a finite float in units of its format's smallest value; 0 for the others
unfoldable pub unit_count : Format → Float → ℕ
unit_count f nan = 0
unit_count f (inf s) = 0
unit_count f (fin s m e) = m * up e * 2 ^ low f / down e

-- the integer of a sign and a size
abbrev pub signed : Bool → ℕ → ℤ
signed s a = cond s (neg_ℤ (pos a)) (pos a)

-- the value of a finite f64, in units
unfoldable pub in_units : Float → ℤ
unfolding unit_count negative
in_units x = signed (negative x) (unit_count binary64 x)
