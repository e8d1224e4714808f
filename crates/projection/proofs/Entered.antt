-- A forward has its checks of the place in itself: it is they, and then its formula, as the source writes it; to check them before it changes nothing.
use mathlib.Core.Path.{◌≡◌, refl}
use lib.Ieee.{Float}
use Rattle.std.specs.Prelude.{Ok, Err}
use Rattle.std.specs.Result.{result_and}
use Rattle.float.specs.Operators.{◌⊖◌}
use Rattle.projection.specs.Answer.{Answer}
use Rattle.projection.specs.Checks.{Check, validate_lon_lat}
use Rattle.projection.specs.Longitude.{normalize_longitude}
use Rattle.projection.specs.Starts.{enter, entered}

module _ (project : Float → Answer) (lon lat lon0 : Float) where
  pub checks_first : result_and (validate_lon_lat lon lat) (project (normalize_longitude (lon ⊖ lon0))) ≡ entered project (enter lon lat lon0)
  unfolding enter entered
  checks_first = go (validate_lon_lat lon lat) (normalize_longitude (lon ⊖ lon0))
    where
      go : (c : Check) (d_lon : Float) → result_and c (project d_lon) ≡ entered project (result_and c (Ok d_lon))
      go (Ok x) d_lon = refl
      go (Err r) d_lon = refl

  pub checked_once : result_and (validate_lon_lat lon lat) (entered project (enter lon lat lon0)) ≡ entered project (enter lon lat lon0)
  checked_once = rw (← checks_first) (go (validate_lon_lat lon lat) (project (normalize_longitude (lon ⊖ lon0))))
    where
      go : (c : Check) (a : Answer) → result_and c (result_and c a) ≡ result_and c a
      go (Ok x) a = refl
      go (Err r) a = refl
