-- On a sphere opposite parallels get 15, unless they are so near that they count as one: the sine is odd and finite, so n is 0.
use mathlib.Core.Path.{◌≡◌, refl}
use mathlib.Core.Bool.{Bool, true, false, cond}
use lib.Dec.{T}
use lib.Ieee.{Float, binary64, fits, neg}
use lib.Ieee.Scale.{finite}
use Rattle.float.specs.Operators.{◌⊖◌, ◌⊘◌, ◌≺◌}
use Rattle.float.specs.Constants.{two}
use Rattle.float.specs.Sign.{abs}
use Rattle.float.proofs.Zero.{zero_of, opposite_sum}
use Rattle.trigonometry.specs.Trigonometry.{sine}
use Rattle.trigonometry.proofs.Bounded.{sine_finite}
use Rattle.trigonometry.proofs.Odd.{sine_odd}
use Rattle.ellipsoid.specs.Ellipsoid.{e2}
use Rattle.ellipsoid.specs.declared.Ellipsoid.{Ellipsoid}
use Rattle.std.specs.Prelude.{Ok, Err}
use Rattle.std.specs.Result.{result_and}
use Rattle.refusals.specs.declared.Refusal.TheVariants.{LatitudeSetting, LatitudeSettingBeyond, ConeConstant}
use Rattle.refusals.proofs.Refused.{refused}
use Rattle.projection.specs.Bound.{LAT_BOUND}
use Rattle.projection.specs.Checks.{Check, passed, validate_latitude_param, validate_settings}
use Rattle.projection.specs.Opened.{opened}
use Rattle.projection.specs.declared.Settings.{Settings}
use Rattle.albers_equal_area.specs.Parallels.{ONE_PARALLEL, NO_CONE, cone_constant}
use Rattle.albers_equal_area.specs.OnSphere.{is_sphere, sphere_cone}
use Rattle.albers_equal_area.specs.AlbersEqualArea.{cone, derived, checked, new}

-- a latitude setting that passes is finite
passes_finite : (lat : Float) → validate_latitude_param lat ≡ passed → T (finite lat)
unfolding validate_latitude_param
passes_finite lat e = go (finite lat) e
  where
    go : (b : Bool) → cond b (cond (LAT_BOUND ≺ abs lat) (Err LatitudeSettingBeyond) passed) (Err LatitudeSetting) ≡ passed → T b
    go true e = tt
    go false e = refused e

-- two checks pass where both do
both_pass : (c d : Check) → result_and c d ≡ passed → (c ≡ passed) × (d ≡ passed)
both_pass (Ok tt) d e = (refl, e)
both_pass (Err r) d e = refused e

-- half of +0 is below 1e-12 in size
too_small : (abs (zero_of false ⊘ two) ≺ NO_CONE) ≡ true
unfolding opened
too_small = refl

module _ (ellipsoid : Ellipsoid) (s : Settings) (opposite : s.lat2 ≡ neg s.lat1) where
  first_finite : validate_settings s ≡ passed → T (finite s.lat1)
  unfolding validate_settings
  first_finite e =
      let latitudes = (both_pass _ _ e).1 in
      let parallels = (both_pass _ _ latitudes).1 in
      passes_finite s.lat1 (both_pass _ _ parallels).0

  -- every f64 fits
  pub opposite_refused : T (fits binary64 s.lat1) → is_sphere (e2 ellipsoid) ≡ true → validate_settings s ≡ passed
      → (abs (s.lat1 ⊖ neg s.lat1) ≺ ONE_PARALLEL) ≡ false
      → new ellipsoid s ≡ Err ConeConstant
  unfolding new checked derived cone sphere_cone cone_constant
  opposite_refused held sphere passes apart =
      let sum = opposite_sum binary64 (sine s.lat1) (sine_finite s.lat1 held (first_finite passes)) in
      rw (passes, sphere, opposite, apart, sine_odd s.lat1, sum, too_small)
