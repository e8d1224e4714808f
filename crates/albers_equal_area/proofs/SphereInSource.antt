-- On a sphere the source's formulas answer no point: e is 0, 1/(2e) an infinity, its product with ln 1 a NaN, and so q is.
use mathlib.Core.Path.{◌≡◌, refl, sym, ap, ◌∙◌}
use mathlib.Core.Bool.{Bool, true, false, cond}
use lib.Ieee.{Float, nan, binary64}
use lib.Ieee.Fits.{sub-fits}
use Rattle.float.specs.Operators.{◌⊕◌, ◌⊖◌, ◌⊗◌, ◌⊘◌, ◌≺◌}
use Rattle.float.specs.Constants.{one, two}
use Rattle.float.specs.Sign.{abs, negative}
use Rattle.float.proofs.NotANumber.{nan_add, nan_sub, nan_mul, nan_div, add_nan, sub_nan, mul_nan}
use Rattle.float.proofs.Zero.{zero_of, equals_zero, Vanished, a_zero, no_number, zero_times}
use Rattle.root.specs.Root.{root}
use Rattle.fixed.specs.Logarithm.{ln}
use Rattle.fixed.specs.Opened.{opened}
use Rattle.trigonometry.specs.Trigonometry.{sine}
use Rattle.ellipsoid.specs.Ellipsoid.{e2}
use Rattle.ellipsoid.specs.declared.Ellipsoid.{Ellipsoid}
use Rattle.std.specs.Prelude.{Result, Ok, Err}
use Rattle.std.specs.Result.{result_and}
use Rattle.refusals.specs.declared.Refusal.{Refusal}
use Rattle.refusals.specs.declared.Refusal.TheVariants.{ConeConstant, ForwardResult, StepsUsedUp}
use Rattle.refusals.proofs.Refused.{refused}
use Rattle.projection.specs.Checks.{Check, validate_settings, validate_lon_lat, validate_projected}
use Rattle.projection.specs.Ends.{ensure_finite_xy}
use Rattle.projection.specs.declared.Settings.{Settings}
use Rattle.projection.proofs.AsInSource.{settings_as_in_source}
use Rattle.projection.proofs.Steps.{never_converges}
use Rattle.albers_equal_area.specs.Parallels.{NO_CONE}
use Rattle.albers_equal_area.specs.OnEllipsoid.{q_func, latitude_round, lat_from_q, STEPS, TOLERANCE}
use Rattle.albers_equal_area.specs.OnSphere.{is_sphere}
use Rattle.albers_equal_area.specs.AsInSource.{source_n, source_derived, source_checked, source_new, source_projected, source_forward, source_ended, source_inverse}
use Rattle.albers_equal_area.specs.declared.AlbersEqualArea.{AlbersEqualArea}

-- ---- q, by (3-12) with e = 0

-- the source's product with its logarithm, for an e sin φ of 0 or NaN
infinite_times : (s : Bool) (x : Float) → Vanished x → one ⊘ (two ⊗ zero_of s) ⊗ ln ((one ⊖ x) ⊘ (one ⊕ x)) ≡ nan
unfolding opened
infinite_times s x (a_zero t e) = rw e (go s t)
  where
    go : (s t : Bool) → one ⊘ (two ⊗ zero_of s) ⊗ ln ((one ⊖ zero_of t) ⊘ (one ⊕ zero_of t)) ≡ nan
    go true true = refl
    go true false = refl
    go false true = refl
    go false false = refl
infinite_times s x (no_number e) = rw e (go s)
  where
    go : (s : Bool) → one ⊘ (two ⊗ zero_of s) ⊗ ln ((one ⊖ nan) ⊘ (one ⊕ nan)) ≡ nan
    go true = refl
    go false = refl

q_nan : (lat e2 : Float) (s : Bool) → q_func lat (zero_of s) e2 ≡ nan
unfolding q_func
q_nan lat e2 s = rw (infinite_times s (zero_of s ⊗ sine lat) (zero_times binary64 s (sine lat)), sub_nan, mul_nan)

-- ---- a projection whose e is 0
module _ (p : AlbersEqualArea) where
  projects_nothing : (s : Bool) → p.e ≡ zero_of s → (lon lat : Float) → source_projected p lon lat ≡ Err ForwardResult
  unfolding ensure_finite_xy abs negative root
  projects_nothing s h lon lat = rw (h, q_nan lat p.e2 s, mul_nan, sub_nan, mul_nan, nan_div, nan_mul binary64 (sine _), add_nan)

  round_nan : (lat : Float) → latitude_round nan p.e p.e2 lat ≡ nan
  unfolding latitude_round
  round_nan lat = rw (nan_div, nan_sub, nan_add, mul_nan, add_nan)

  finds_nothing : lat_from_q nan p.e p.e2 ≡ Err StepsUsedUp
  unfolding lat_from_q
  finds_nothing = never_converges (latitude_round nan p.e p.e2) TOLERANCE round_nan STEPS _

  ends_nowhere : p.c ≡ nan → (x y : Float) → source_inverse p x y ≡ result_and (validate_projected x y) (Err StepsUsedUp)
  unfolding source_ended
  ends_nowhere h x y = rw (h, nan_sub, nan_div, finds_nothing)

-- ---- what the source builds

-- a projection that is built passed the settings' checks and 15
passed : (c : Check) (built : Result AlbersEqualArea Refusal) (p : AlbersEqualArea) → result_and c built ≡ Ok p → built ≡ Ok p
passed (Ok x) built p h = h
passed (Err r) built p h = refused h

not_refused : (b : Bool) (r : Refusal) (derived p : AlbersEqualArea) → cond b (Err r) (Ok derived) ≡ Ok p → derived ≡ p
not_refused true r derived p h = refused h
not_refused false r derived p h = cc

module _ (ellipsoid : Ellipsoid) (s : Settings) (p : AlbersEqualArea) (built : source_new ellipsoid s ≡ Ok p) where
  is_derived : source_derived ellipsoid s ≡ p
  is_derived =
      let whole = source_checked ellipsoid s in
      not_refused (abs (source_n ellipsoid s.lat1 s.lat2) ≺ NO_CONE) ConeConstant (source_derived ellipsoid s) p
      (passed (validate_settings s) whole p (sym (settings_as_in_source s whole) ∙ built))

  pub e2_is : p.e2 ≡ e2 ellipsoid
  e2_is = ap (λ (r : AlbersEqualArea). r.e2) (sym is_derived)

  -- ---- on a sphere
  e2_zero : is_sphere (e2 ellipsoid) ≡ true → e2 ellipsoid ≡ zero_of (negative (e2 ellipsoid))
  unfolding is_sphere e2
  e2_zero sphere = equals_zero binary64 (e2 ellipsoid) (sub-fits binary64 _ _) sphere

  e_zero : is_sphere (e2 ellipsoid) ≡ true → p.e ≡ zero_of (negative (e2 ellipsoid))
  unfolding root
  e_zero sphere = ap (λ (r : AlbersEqualArea). r.e) (sym is_derived) ∙ ap root (e2_zero sphere)

  c_nan : is_sphere (e2 ellipsoid) ≡ true → p.c ≡ nan
  unfolding root
  c_nan sphere =
      ap (λ (r : AlbersEqualArea). r.c) (sym is_derived)
      ∙ rw (ap root (e2_zero sphere), q_nan s.lat1 (e2 ellipsoid) (negative (e2 ellipsoid)), mul_nan, add_nan)

  pub forward_refused : is_sphere (e2 ellipsoid) ≡ true → (lon lat : Float)
      → source_forward p lon lat ≡ result_and (validate_lon_lat lon lat) (Err ForwardResult)
  forward_refused sphere lon lat = rw (projects_nothing p (negative (e2 ellipsoid)) (e_zero sphere) lon lat)

  pub inverse_refused : is_sphere (e2 ellipsoid) ≡ true → (x y : Float)
      → source_inverse p x y ≡ result_and (validate_projected x y) (Err StepsUsedUp)
  inverse_refused sphere x y = ends_nowhere p (c_nan sphere) x y
