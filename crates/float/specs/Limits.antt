-- Rust's `clamp`, and its `max` with 0 (document 01, Fixed functions).
use Rattle.std.specs.Prelude.{cond, Float}
use Rattle.float.specs.Operators.{◌≺◌}
use Rattle.float.specs.Constants.{+0}

-- x, or the end of [low, high] that it is beyond; a NaN passes, and so does -0 between the ends
unfoldable pub clamp : Float → Float → Float → Float
clamp x low high = cond (x ≺ low) low (cond (high ≺ x) high x)

-- x if it is above 0, else +0, which a NaN gets too
unfoldable pub max_zero : Float → Float
max_zero x = cond (+0 ≺ x) x +0
