-- No point that a projection of the source answers changes: off a sphere its formulas are ours, and on a sphere it answers none.
use mathlib.Core.Path.{◌≡◌, refl, sym, ap, ◌∙◌}
use mathlib.Core.Bool.{Bool, true, false}
use Rattle.std.specs.Prelude.{Ok, Err}
use Rattle.std.specs.Result.{result_and}
use lib.Ieee.{Float}
use Rattle.ellipsoid.specs.Ellipsoid.{e2}
use Rattle.ellipsoid.specs.declared.Ellipsoid.{Ellipsoid}
use Rattle.refusals.specs.declared.Refusal.{Refusal}
use Rattle.refusals.proofs.Refused.{refused}
use Rattle.projection.specs.Checks.{Check}
use Rattle.projection.specs.Answer.{Answer, pair}
use Rattle.projection.specs.declared.Settings.{Settings}
use Rattle.albers_equal_area.specs.OnSphere.{is_sphere}
use Rattle.albers_equal_area.specs.AlbersEqualArea.{new, forward, inverse}
use Rattle.albers_equal_area.specs.AsInSource.{source_new, source_forward, source_inverse}
use Rattle.albers_equal_area.specs.declared.AlbersEqualArea.{AlbersEqualArea}
use Rattle.albers_equal_area.proofs.AsInSource.{new_as_in_source, forward_as_in_source, inverse_as_in_source}
use Rattle.albers_equal_area.proofs.SphereInSource.{e2_is, forward_refused, inverse_refused}

no_pair : (c : Check) (r : Refusal) (u v : Float) → result_and c (Err r) ≡ pair u v → ⊥
no_pair (Ok x) r u v h = refused h
no_pair (Err t) r u v h = refused h

module _ (ellipsoid : Ellipsoid) (s : Settings) (p : AlbersEqualArea) (built : source_new ellipsoid s ≡ Ok p) where
  -- ours is built alike, and answers alike
  abbrev pub Unchanged : Answer → Answer → Type 0
  Unchanged ours answer = (new ellipsoid s ≡ Ok p) × (ours ≡ answer)

  -- where it answers u, v: on a sphere that cannot be
  either_way : (source ours : Answer) (c : Check) (r : Refusal) (u v : Float) → source ≡ pair u v
      → (is_sphere (e2 ellipsoid) ≡ true → source ≡ result_and c (Err r)) → (is_sphere p.e2 ≡ false → source ≡ ours)
      → Unchanged ours (pair u v)
  either_way source ours c r u v h on off = go (is_sphere (e2 ellipsoid)) refl
    where
      go : (b : Bool) → is_sphere (e2 ellipsoid) ≡ b → Unchanged ours (pair u v)
      go true sphere = absurd (no_pair c r u v (sym (on sphere) ∙ h))
      go false other = (
        sym (new_as_in_source ellipsoid s other) ∙ built,
        sym (off (ap is_sphere (e2_is ellipsoid s p built) ∙ other)) ∙ h,
      )

  pub forward_unchanged : (lon lat x y : Float) → source_forward p lon lat ≡ pair x y → Unchanged (forward p lon lat) (pair x y)
  forward_unchanged lon lat x y h =
      either_way (source_forward p lon lat) (forward p lon lat) _ _ x y h
      (λ sphere. forward_refused ellipsoid s p built sphere lon lat)
      (λ other. forward_as_in_source p other lon lat)

  pub inverse_unchanged : (x y lon lat : Float) → source_inverse p x y ≡ pair lon lat → Unchanged (inverse p x y) (pair lon lat)
  inverse_unchanged x y lon lat h =
      either_way (source_inverse p x y) (inverse p x y) _ _ lon lat h
      (λ sphere. inverse_refused ellipsoid s p built sphere x y)
      (λ other. inverse_as_in_source p other x y)
