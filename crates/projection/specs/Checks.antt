-- The checks: each passes, or gives document 01's refusal. Beyond the bound means strictly above it. `result_and` is the source's `?`: the first refusal of two.
use Rattle.std.specs.Prelude.{cond, ◌&&◌, Float, Result, Ok, Err, ⊤}
use Rattle.std.specs.Result.{result_and}
use Rattle.std.specs.Float.Ieee.Scale.{finite}
use Rattle.float.specs.Operators.{◌≺◌}
use Rattle.float.specs.Constants.{+0}
use Rattle.float.specs.Sign.{abs}
use Rattle.refusals.specs.declared.Refusal.{Refusal}
use Rattle.refusals.specs.declared.Refusal.TheVariants.{Lon0, LatitudeSetting, LatitudeSettingBeyond, FalseEasting, FalseNorthing, ForwardInput, ForwardBeyond, InverseInput}
use Rattle.projection.specs.Bound.{LAT_BOUND}
use Rattle.projection.specs.declared.Settings.{Settings}

-- a check passes, or refuses
abbrev pub Check : Type 0
Check = Result ⊤ Refusal

abbrev pub passed : Check
passed = Ok tt

unfoldable pub validate_angle : Float → Check
validate_angle value = cond (finite value) passed (Err Lon0)

unfoldable pub validate_latitude_param : Float → Check
validate_latitude_param value = cond (finite value) (cond (LAT_BOUND ≺ abs value) (Err LatitudeSettingBeyond) passed) (Err LatitudeSetting)

-- the refusal says which offset it is, and is of any type: one of document 01's, or a number
unfoldable pub validate_offset : {R : Type 0} → Float → R → Result ⊤ R
validate_offset value refusal = cond (finite value) (Ok tt) (Err refusal)

-- of a kind that has lat0 alone, and of one that has no latitude: those that it does not have are 0
abbrev pub with_origin : Float → Float → Float → Float → Settings
with_origin lon0 lat0 false_easting false_northing =
    record { lon0 = lon0; lat0 = lat0; lat1 = +0; lat2 = +0; false_easting = false_easting; false_northing = false_northing }

abbrev pub without_origin : Float → Float → Float → Settings
without_origin lon0 false_easting false_northing = with_origin lon0 +0 false_easting false_northing

-- the settings that the kinds share: 6, then 7 and 8 latitude by latitude, then 9, 10
unfoldable pub validate_settings : Settings → Check
validate_settings s =
    result_and (validate_angle s.lon0)
    (result_and (validate_latitude_param s.lat0)
    (result_and (validate_latitude_param s.lat1)
    (result_and (validate_latitude_param s.lat2)
    (result_and (validate_offset s.false_easting FalseEasting) (validate_offset s.false_northing FalseNorthing)))))

unfoldable pub validate_lon_lat : Float → Float → Check
validate_lon_lat lon lat = cond (finite lon && finite lat) (cond (LAT_BOUND ≺ abs lat) (Err ForwardBeyond) passed) (Err ForwardInput)

unfoldable pub validate_projected : Float → Float → Check
validate_projected x y = cond (finite x && finite y) passed (Err InverseInput)
