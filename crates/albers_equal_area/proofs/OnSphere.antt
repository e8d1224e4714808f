-- What the inverse says off the map of a sphere: 20 and 23 are its only numbers. There are no rounds to use up, and an arcsine is at most FRAC_PI_2 or a NaN.
use mathlib.Core.Path.{◌≡◌, sym, ◌∙◌}
use mathlib.Core.Logic.{◌⊎◌, inl, inr}
use mathlib.Core.Bool.{Bool, true, false, cond, ◌&&◌, and-false}
use Prim.Native.Nat.{◌≤◌}
use native.Mathlib.Nat.{le_trans}
use borrow.Author.Tests.{le-ltb}
use lib.Dec.{lit≤}
use lib.Ieee.{Float, binary64, fits}
use lib.Ieee.Scale.{finite}
use Rattle.float.specs.Operators.{◌⊕◌, ◌⊖◌, ◌⊘◌, ◌≺◌}
use Rattle.float.specs.Constants.{one, two}
use Rattle.float.specs.Sign.{abs}
use Rattle.float.specs.Units.{unit_count}
use Rattle.float.proofs.Finite.{Finite, finite_of}
use Rattle.float.proofs.AbsoluteValue.{abs_finite}
use Rattle.float.proofs.Comparison.{lt_units}
use Rattle.fixed.specs.Arctangent.{arcsine}
use Rattle.fixed.proofs.ArcsineBound.{RIGHT, WithinRight, RightAngle, no_number, within, arcsine_bound}
use Rattle.std.specs.Prelude.{Err}
use Rattle.std.specs.Result.{result_and}
use Rattle.refusals.specs.declared.Refusal.{Refusal}
use Rattle.refusals.specs.declared.Refusal.TheVariants.{InverseInput, InverseResult}
use Rattle.refusals.proofs.Refused.{refused}
use Rattle.projection.specs.Bound.{LAT_BOUND}
use Rattle.projection.specs.Longitude.{normalize_longitude}
use Rattle.projection.specs.Checks.{passed, validate_projected}
use Rattle.projection.specs.Ends.{ensure_finite_lon_lat, finish}
use Rattle.projection.specs.Opened.{opened}
use Rattle.projection.specs.Answer.{Answer, pair}
use Rattle.projection.proofs.Finished.{finish_guarded}
use Rattle.albers_equal_area.specs.OnSphere.{is_sphere, sphere_latitude}
use Rattle.albers_equal_area.specs.AlbersEqualArea.{latitude_of_q, theta_of_offset, q_of_offset, place, formula, inverse}
use Rattle.albers_equal_area.specs.declared.AlbersEqualArea.{AlbersEqualArea}

-- an answer that is refused by 20 or 23, if at all
abbrev ByInputOrResult : Answer → Type 0
ByInputOrResult answer = (r : Refusal) → answer ≡ Err r → (r ≡ InverseInput) ⊎ (r ≡ InverseResult)

either : (b : Bool) {u v : Answer} → ByInputOrResult u → ByInputOrResult v → ByInputOrResult (cond b u v)
either true f g = f
either false f g = g

a_pair : (lon lat : Float) → ByInputOrResult (pair lon lat)
a_pair lon lat r h = refused (sym h)

by_result : ByInputOrResult (Err InverseResult)
by_result r h = inr cc

bound_is : Finite binary64 LAT_BOUND false (unit_count binary64 LAT_BOUND)
unfolding opened fits
bound_is = finite_of binary64 LAT_BOUND tt tt

right_within_bound : RIGHT ≤ unit_count binary64 LAT_BOUND
unfolding opened
right_within_bound = lit≤ tt

-- such a latitude is not beyond the bound
not_beyond : (lat : Float) → WithinRight lat → (LAT_BOUND ≺ abs lat) ≡ false
not_beyond lat w =
    lt_units bound_is.units (abs_finite w.is).units ∙ le-ltb (unit_count binary64 LAT_BOUND) w.count (le_trans w.most right_within_bound)

ended : (lon lat : Float) → RightAngle lat → ByInputOrResult (ensure_finite_lon_lat lon lat)
unfolding ensure_finite_lon_lat
ended lon lat (no_number e) = rw (e, and-false (finite lon)) by_result
ended lon lat (within w) = rw (not_beyond lat w) (either (finite lon && finite lat) (a_pair (normalize_longitude lon) lat) by_result)

checked : (b : Bool) (lon lat : Float) → RightAngle lat → ByInputOrResult (result_and (cond b passed (Err InverseInput)) (ensure_finite_lon_lat lon lat))
checked true lon lat r = ended lon lat r
checked false lon lat r = λ s h. inl cc

module _ (p : AlbersEqualArea) (sphere : is_sphere p.e2 ≡ true) (x y : Float) where
  -- the point's offset from the cone's apex, and its q
  abbrev dx : Float
  dx = x ⊖ p.false_easting

  abbrev dy : Float
  dy = p.rho0 ⊖ (y ⊖ p.false_northing)

  abbrev q : Float
  q = q_of_offset p dx dy

  pub beyond_one : validate_projected x y ≡ passed → (one ≺ abs (q ⊘ two)) ≡ true → inverse p x y ≡ Err InverseResult
  unfolding inverse formula latitude_of_q sphere_latitude arcsine place finish ensure_finite_lon_lat
  beyond_one passes beyond = rw (passes, sphere, beyond, and-false)

  -- so never by 22 or 24
  pub by_input_or_result : (r : Refusal) → inverse p x y ≡ Err r → (r ≡ InverseInput) ⊎ (r ≡ InverseResult)
  unfolding inverse formula latitude_of_q sphere_latitude place finish validate_projected
  by_input_or_result =
      rw (finish_guarded, sphere)
      (checked (finite x && finite y) (p.lon0 ⊕ theta_of_offset p dx dy ⊘ p.n) (arcsine (q ⊘ two)) (arcsine_bound (q ⊘ two)))
