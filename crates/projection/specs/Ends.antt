-- The end of every forward and of every inverse.
use Rattle.std.specs.Prelude.{cond, ◌&&◌, Float, Ok, Err}
use Rattle.std.specs.Float.Ieee.Scale.{finite}
use Rattle.float.specs.Operators.{◌≺◌}
use Rattle.float.specs.Sign.{abs}
use Rattle.refusals.specs.declared.Refusal.TheVariants.{ForwardResult, InverseResult, InverseBeyond}
use Rattle.projection.specs.Answer.{Answer}
use Rattle.projection.specs.Bound.{LAT_BOUND}
use Rattle.projection.specs.Longitude.{normalize_longitude}

unfoldable pub ensure_finite_xy : Float → Float → Answer
ensure_finite_xy x y = cond (finite x && finite y) (Ok (x, y)) (Err ForwardResult)

-- 23 before 24, then the normalised longitude
unfoldable pub ensure_finite_lon_lat : Float → Float → Answer
ensure_finite_lon_lat lon lat =
    cond (finite lon && finite lat) (cond (LAT_BOUND ≺ abs lat) (Err InverseBeyond) (Ok (normalize_longitude lon, lat)))
    (Err InverseResult)

-- An inverse's answer from what its formula gives: a place with 01's "formula's longitude", which is normalised here and nowhere else, or a refusal.
unfoldable pub finish : Answer → Answer
unfolding ensure_finite_lon_lat
finish (Ok (lon, lat)) = ensure_finite_lon_lat lon lat
finish (Err r) = Err r
