-- For every e² other than 0 the source's constructor, forward and inverse are ours: the settings' checks in turn are one, 15 is asked of the same n, and the
-- branches for a sphere are not taken.
use mathlib.Core.Path.{◌≡◌, refl}
use mathlib.Core.Bool.{false}
use lib.Ieee.{Float}
use Rattle.std.specs.Prelude.{Result, Ok, Err}
use Rattle.float.specs.Operators.{◌⊕◌, ◌⊘◌}
use Rattle.ellipsoid.specs.Ellipsoid.{e2}
use Rattle.ellipsoid.specs.declared.Ellipsoid.{Ellipsoid}
use Rattle.refusals.specs.declared.Refusal.{Refusal}
use Rattle.projection.specs.Ends.{finish}
use Rattle.projection.specs.declared.Settings.{Settings}
use Rattle.projection.proofs.AsInSource.{settings_as_in_source}
use Rattle.projection.proofs.Entered.{checks_first}
use Rattle.projection.proofs.Finished.{finish_guarded}
use Rattle.albers_equal_area.specs.Parallels.{cone_constant}
use Rattle.albers_equal_area.specs.OnEllipsoid.{ellipsoid_cone}
use Rattle.albers_equal_area.specs.OnSphere.{is_sphere}
use Rattle.albers_equal_area.specs.AlbersEqualArea.{parallel_radius, cone, derived, checked, new, q_of_latitude, projected, forward, latitude_of_q, theta_of_offset, q_of_offset, place, formula, inverse}
use Rattle.albers_equal_area.specs.AsInSource.{source_checked, source_new, source_forward, source_ended, source_inverse}
use Rattle.albers_equal_area.specs.declared.AlbersEqualArea.{AlbersEqualArea}

pub new_as_in_source : (ellipsoid : Ellipsoid) (s : Settings) → is_sphere (e2 ellipsoid) ≡ false → source_new ellipsoid s ≡ new ellipsoid s
unfolding new checked derived cone ellipsoid_cone cone_constant parallel_radius
new_as_in_source ellipsoid s h = rw h (settings_as_in_source s (source_checked ellipsoid s))

module _ (p : AlbersEqualArea) (h : is_sphere p.e2 ≡ false) where
  pub forward_as_in_source : (lon lat : Float) → source_forward p lon lat ≡ forward p lon lat
  unfolding forward projected q_of_latitude parallel_radius
  forward_as_in_source lon lat = rw (← (checks_first (λ d_lon. projected p d_lon lat) lon lat p.lon0), h)

  ended : (theta : Float) (s : Result Float Refusal) → source_ended (p.lon0 ⊕ theta ⊘ p.n) s ≡ finish (place p theta s)
  unfolding source_ended finish place
  ended theta (Ok lat) = refl
  ended theta (Err r) = refl

  pub inverse_as_in_source : (x y : Float) → source_inverse p x y ≡ inverse p x y
  unfolding inverse formula latitude_of_q theta_of_offset q_of_offset
  inverse_as_in_source x y = rw (finish_guarded, ← ended, h)
