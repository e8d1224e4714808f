-- Normalising a longitude into [-π, π], as the source does.
use Rattle.std.specs.Prelude.{cond, ◌&&◌, Float}
use Rattle.std.specs.Float.Ieee.{neg}
use Rattle.float.specs.Operators.{◌⊕◌, ◌⊖◌, ◌≺◌, ◌≈◌}
use Rattle.float.specs.Constants.{+0, PI}
use Rattle.trigonometry.specs.Turns.{rem_euclid}

-- what comes to -π from the east is π
unfoldable pub eastern : Float → Float → Float
eastern lon normalized = cond (normalized ≈ neg PI && +0 ≺ lon) PI normalized

unfoldable pub normalize_longitude : Float → Float
unfolding eastern
normalize_longitude lon = eastern lon (rem_euclid (lon ⊕ PI) ⊖ PI)
