-- Document 02's Q-6: the map has a frame, and a click in it is no place. The first inverse answers it, as document 01 says: held to the map's edge, or of Equal
-- Earth's easting on the other side. The second refuses it.
use Rattle.std.specs.Prelude.{◌≡◌, refl, Bool, false, ◌^◌, Float}
use Rattle.std.specs.Float.Ieee.{of_bits, round}
use Rattle.float.specs.Operators.{◌≺◌, f64}
use Rattle.float.specs.Constants.{ratio}
use Rattle.projection.specs.declared.Frame.{Frame}
use Rattle.projection.specs.declared.Frame.TheVariants.{Held, Refused}

-- what 02 adds to the end of a map before a click is beyond its edge
abbrev pub EDGE_EPSILON : Float
EDGE_EPSILON = f64 0x3d719799812dea11

pub constants : EDGE_EPSILON ≡ ratio 1 (10 ^ 12)
unfolding of_bits round
constants = refl

-- Whether a click is refused by a number that its formula forms: one above the edge. Infinity is above, NaN is not.
unfoldable pub beyond_edge : Frame → Float → Float → Bool
beyond_edge Held value edge = false
beyond_edge Refused value edge = edge ≺ value
