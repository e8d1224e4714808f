-- The shared checks as the source writes them are ours: on the left of each equation stands the source's text, which asks what is wrong and returns early by `?`.
use mathlib.Core.Path.{◌≡◌, refl}
use mathlib.Core.Bool.{Bool, true, false, not, cond, ◌&&◌, ◌||◌}
use lib.Ieee.{Float, lt, of_bits}
use lib.Ieee.Scale.{finite}
use Rattle.float.specs.Operators.{◌≺◌}
use Rattle.float.specs.Constants.{+0}
use Rattle.float.specs.Sign.{abs, negative}
use Rattle.std.specs.Prelude.{Result, Ok, Err}
use Rattle.std.specs.Result.{result_and}
use Rattle.refusals.specs.declared.Refusal.{Refusal}
use Rattle.refusals.specs.declared.Refusal.TheVariants.{Lon0, LatitudeSetting, LatitudeSettingBeyond, FalseEasting, FalseNorthing, ForwardInput, ForwardBeyond, ForwardResult, InverseInput, InverseResult, InverseBeyond}
use Rattle.projection.specs.Bound.{LAT_BOUND}
use Rattle.projection.specs.Checks.{passed, with_origin, without_origin, validate_settings, validate_angle, validate_latitude_param, validate_offset, validate_lon_lat, validate_projected}
use Rattle.projection.specs.Longitude.{normalize_longitude}
use Rattle.projection.specs.declared.Settings.{Settings}
use Rattle.refusals.proofs.Refused.{and_and}
use Rattle.projection.specs.Ends.{ensure_finite_xy, ensure_finite_lon_lat}

unless : {A : Type 0} (p : Bool) (x y : A) → cond (not p) x y ≡ cond p y x
unless true x y = refl
unless false x y = refl

either_not : {A : Type 0} (p q : Bool) (x y : A) → cond (not p || not q) x y ≡ cond (p && q) y x
either_not true q x y = unless q x y
either_not false q x y = refl

-- ---- one check
pub angle_as_in_source : (value : Float) → cond (not (finite value)) (Err Lon0) passed ≡ validate_angle value
unfolding validate_angle
angle_as_in_source value = unless (finite value) (Err Lon0) passed

-- The source calls validate_angle first. Document 01 has a number of its own for a latitude that is not finite.
pub latitude_param_as_in_source : (value : Float)
    → cond (not (finite value)) (Err LatitudeSetting) (cond (LAT_BOUND ≺ abs value) (Err LatitudeSettingBeyond) passed) ≡ validate_latitude_param value
unfolding validate_latitude_param
latitude_param_as_in_source value = unless (finite value) (Err LatitudeSetting) (cond (LAT_BOUND ≺ abs value) (Err LatitudeSettingBeyond) passed)

-- of any refusal, and of every number
pub offset_as_in_source : {R : Type 0} (value : Float) (refusal : R) → cond (not (finite value)) (Err refusal) (Ok tt) ≡ validate_offset value refusal
unfolding validate_offset
offset_as_in_source value refusal = unless (finite value) (Err refusal) (Ok tt)

pub lon_lat_as_in_source : (lon lat : Float)
    → cond (not (finite lon) || not (finite lat)) (Err ForwardInput) (cond (LAT_BOUND ≺ abs lat) (Err ForwardBeyond) passed) ≡ validate_lon_lat lon lat
unfolding validate_lon_lat
lon_lat_as_in_source lon lat = either_not (finite lon) (finite lat) (Err ForwardInput) (cond (LAT_BOUND ≺ abs lat) (Err ForwardBeyond) passed)

pub projected_as_in_source : (x y : Float) → cond (not (finite x) || not (finite y)) (Err InverseInput) passed ≡ validate_projected x y
unfolding validate_projected
projected_as_in_source x y = either_not (finite x) (finite y) (Err InverseInput) passed

-- ---- the ends
pub finite_xy_as_in_source : (x y : Float)
    → cond (not (finite x) || not (finite y)) (Err ForwardResult) (Ok (x, y)) ≡ ensure_finite_xy x y
unfolding ensure_finite_xy
finite_xy_as_in_source x y = either_not (finite x) (finite y) (Err ForwardResult) (Ok (x, y))

pub finite_lon_lat_as_in_source : (lon lat : Float)
    → cond (not (finite lon) || not (finite lat)) (Err InverseResult)
    (cond (LAT_BOUND ≺ abs lat) (Err InverseBeyond) (Ok (normalize_longitude lon, lat))) ≡ ensure_finite_lon_lat lon lat
unfolding ensure_finite_lon_lat
finite_lon_lat_as_in_source lon lat =
    either_not (finite lon) (finite lat) (Err InverseResult)
    (cond (LAT_BOUND ≺ abs lat) (Err InverseBeyond) (Ok (normalize_longitude lon, lat)))

-- ---- the settings, one `?` after the other, before whatever follows them

-- of Albers
pub settings_as_in_source : {A : Type 0} (s : Settings) (a : Result A Refusal)
    → result_and (validate_angle s.lon0)
    (result_and (validate_latitude_param s.lat0)
    (result_and (validate_latitude_param s.lat1)
    (result_and (validate_latitude_param s.lat2)
    (result_and (validate_offset s.false_easting FalseEasting) (result_and (validate_offset s.false_northing FalseNorthing) a)))))
    ≡ result_and (validate_settings s) a
unfolding validate_settings
settings_as_in_source s a = simp and_and

-- a latitude that a kind does not have is 0, which passes
skipped : {A : Type 0} (a : Result A Refusal) → result_and (validate_latitude_param +0) a ≡ a
unfolding validate_latitude_param abs negative lt of_bits
skipped a = refl

-- of the kinds that have lat0 alone: Lambert, Cassini-Soldner, the polyconic and Guam
pub origin_as_in_source : {A : Type 0} (lon0 lat0 false_easting false_northing : Float) (a : Result A Refusal)
    → result_and (validate_angle lon0)
    (result_and (validate_latitude_param lat0)
    (result_and (validate_offset false_easting FalseEasting) (result_and (validate_offset false_northing FalseNorthing) a)))
    ≡ result_and (validate_settings (with_origin lon0 lat0 false_easting false_northing)) a
origin_as_in_source lon0 lat0 false_easting false_northing a =
    rw (← settings_as_in_source (with_origin lon0 lat0 false_easting false_northing) a) (simp skipped)

-- of Equal Earth, which has no latitude
pub no_origin_as_in_source : {A : Type 0} (lon0 false_easting false_northing : Float) (a : Result A Refusal)
    → result_and (validate_angle lon0)
    (result_and (validate_offset false_easting FalseEasting) (result_and (validate_offset false_northing FalseNorthing) a))
    ≡ result_and (validate_settings (without_origin lon0 false_easting false_northing)) a
no_origin_as_in_source lon0 false_easting false_northing a =
    rw (← settings_as_in_source (without_origin lon0 false_easting false_northing) a) (simp skipped)
