-- The area of use of a projection: document 02's request Q-1. Longitudes and latitudes are compared as numbers, so +0 and -0 are one edge, and -π and π are two.
use Rattle.std.specs.Prelude.{Bool, cond, ◌&&◌, ◌||◌, Float, Option, Some, None, Ok, Err}
use Rattle.std.specs.Result.{result_and}
use Rattle.std.specs.Float.Ieee.Scale.{finite}
use Rattle.float.specs.Operators.{◌≺◌, ◌≼◌}
use Rattle.float.specs.Constants.{PI}
use Rattle.float.specs.Sign.{abs}
use Rattle.refusals.specs.declared.Refusal.TheVariants.{AreaEdges, OutsideArea}
use Rattle.projection.specs.Answer.{Answer}
use Rattle.projection.specs.Bound.{LAT_BOUND}
use Rattle.projection.specs.Checks.{Check, passed}
use Rattle.projection.specs.Longitude.{normalize_longitude}
use Rattle.projection.specs.declared.Area.{Area}

-- 25 where an edge is not finite, a longitude edge lies outside [-π, π], a latitude edge exceeds the bound in size, or south exceeds north
unfoldable pub validate_area : Area → Check
validate_area area =
    let all_finite = (finite area.west && finite area.east) && (finite area.south && finite area.north) in
    let outside_turn = PI ≺ abs area.west || PI ≺ abs area.east in
    let beyond = LAT_BOUND ≺ abs area.south || LAT_BOUND ≺ abs area.north in
    cond all_finite (cond (outside_turn || beyond || area.north ≺ area.south) (Err AreaEdges) passed) (Err AreaEdges)

-- west above east: the area crosses the line of 180 degrees
abbrev pub crosses : Area → Bool
crosses area = area.east ≺ area.west

-- Whether the area holds a place whose longitude is normalised: between west and east, or, where it crosses the line, beyond one of them. Edges belong to it.
unfoldable pub holds : Area → Float → Float → Bool
holds area lon lat =
    let from_west = area.west ≼ lon in
    let to_east = lon ≼ area.east in
    (from_west && to_east || crosses area && (from_west || to_east)) && (area.south ≼ lat && lat ≼ area.north)

-- 26 for a place outside the area of use, if there is one; its longitude is normalised already
unfoldable pub validate_normalised : Option Area → Float → Float → Check
validate_normalised None lon lat = passed
validate_normalised (Some area) lon lat = cond (holds area lon lat) passed (Err OutsideArea)

-- the same for any place: its longitude is normalised before the test
unfoldable pub validate_place : Option Area → Float → Float → Check
unfolding validate_normalised
validate_place area lon lat = validate_normalised area (normalize_longitude lon) lat

-- an inverse's answer, which `finish` has normalised: 26 after 24
unfoldable pub ensure_inside : Option Area → Answer → Answer
unfolding validate_normalised
ensure_inside area (Ok (lon, lat)) = result_and (validate_normalised area lon lat) (Ok (lon, lat))
ensure_inside area (Err r) = Err r
