-- The sign bit, and what Rust's `abs` and `signum` make of it. The NaN of the definitions has no sign.
use Rattle.std.specs.Prelude.{Bool, false, cond, Float}
use Rattle.std.specs.Float.{nan, inf, fin}
use Rattle.std.specs.Float.Ieee.{neg, is_nan}
use Rattle.float.specs.Constants.{one}

-- whether the sign bit is set, as it is in -0
unfoldable pub negative : Float → Bool
negative nan = false
negative (inf s) = s
negative (fin s m e) = s

unfoldable pub abs : Float → Float
unfolding negative
abs x = cond (negative x) (neg x) x

-- 1 or -1 by the sign bit; a NaN stays
unfoldable pub signum : Float → Float
unfolding negative
signum x = cond (is_nan x) x (cond (negative x) (neg one) one)
