-- An area that was handed in with a NaN edge holds no place: no comparison with a NaN is true, and crossing is one.
use mathlib.Core.Path.{◌≡◌}
use mathlib.Core.Bool.{false, and-false}
use lib.Ieee.{Float, nan}
use Rattle.float.proofs.NotANumber.{nan_at_most, at_most_nan, nan_below, below_nan}
use Rattle.projection.specs.AreaOfUse.{holds}
use Rattle.projection.specs.declared.Area.{Area}

module _ (area : Area) (lon lat : Float) where
  pub nan_west : area.west ≡ nan → holds area lon lat ≡ false
  unfolding holds
  nan_west e = simp (e, nan_at_most, below_nan)

  pub nan_east : area.east ≡ nan → holds area lon lat ≡ false
  unfolding holds
  nan_east e = simp (e, at_most_nan, nan_below, and-false)

  pub nan_south : area.south ≡ nan → holds area lon lat ≡ false
  unfolding holds
  nan_south e = simp (e, nan_at_most, and-false)

  pub nan_north : area.north ≡ nan → holds area lon lat ≡ false
  unfolding holds
  nan_north e = simp (e, at_most_nan, and-false)
