-- The start of every forward: 16, 17, then the longitude from the origin, normalised.
use Rattle.std.specs.Prelude.{Float, Result, Ok, Err}
use Rattle.std.specs.Result.{result_and}
use Rattle.float.specs.Operators.{◌⊖◌}
use Rattle.refusals.specs.declared.Refusal.{Refusal}
use Rattle.projection.specs.Answer.{Answer}
use Rattle.projection.specs.Checks.{validate_lon_lat}
use Rattle.projection.specs.Longitude.{normalize_longitude}

unfoldable pub enter : Float → Float → Float → Result Float Refusal
enter lon lat lon0 = result_and (validate_lon_lat lon lat) (Ok (normalize_longitude (lon ⊖ lon0)))

-- a forward's answer: its refusal, or what the kind makes of the longitude from the origin
unfoldable pub entered : (Float → Answer) → Result Float Refusal → Answer
entered project (Ok d_lon) = project d_lon
entered project (Err r) = Err r
