-- The source's inverse is ours: by whether e² is 0, each of our choices is the source's, and xs² + ys² is ys² + xs².
use mathlib.Core.Path.{◌≡◌, refl, ap, fun_ext}
use mathlib.Core.Bool.{Bool, true, false, cond}
use mathlib.Core.List.{List}
use lib.Ieee.{Float, binary64}
use Rattle.float.specs.Operators.{◌⊕◌, ◌⊖◌, ◌⊗◌, ◌⊘◌, ◌≈◌}
use Rattle.float.specs.Constants.{+0}
use Rattle.std.specs.Prelude.{Result, Ok, Err}
use Rattle.std.specs.Result.{result_and}
use Rattle.refusals.specs.declared.Refusal.{Refusal}
use Rattle.projection.specs.Checks.{validate_projected}
use Rattle.projection.specs.Iteration.{iterate}
use Rattle.projection.specs.declared.Step.{Step}
use Rattle.american_polyconic.specs.Tolerances.{STEPS}
use Rattle.american_polyconic.specs.Newton.{sphere_step, ellipsoid_step, step, latitude}
use Rattle.american_polyconic.specs.AmericanPolyconic.{ordinate, sin_e, at_latitude, place, formula}
use Rattle.american_polyconic.specs.AsInSource.{source_sphere_end, source_sphere_place, source_ellipsoid_end, source_ellipsoid_place, source_formula}
use Rattle.american_polyconic.specs.declared.AmericanPolyconic.{AmericanPolyconic}
use Rattle.american_polyconic.specs.declared.newton.Point.{Point}
use Rattle.american_polyconic.proofs.AdditionCommutes.{add_commutes}

-- what Newton's method is given
abbrev point : AmericanPolyconic → List Float → Float → Float → Point
point p en ys b = record { e2 = p.e2; en = en; ys = ys; b = b }

-- ---- where e² is 0
module _ (p : AmericanPolyconic) (zero : (p.e2 ≈ +0) ≡ true) where
  sphere_end : (xs : Float) (s : Result Float Refusal) → source_sphere_end p xs s ≡ at_latitude p xs s
  unfolding at_latitude sin_e
  sphere_end xs (Ok phi) = rw zero
  sphere_end xs (Err r) = refl

  sphere_steps : (en : List Float) (ys b : Float) → iterate (λ phi. Ok (sphere_step ys b phi)) STEPS ys ≡ latitude (point p en ys b)
  unfolding latitude step
  sphere_steps en ys b = ap (λ (f : Float → Result Step Refusal). iterate f STEPS ys) (fun_ext (λ phi. rw zero))

  sphere_place : (en : List Float) (xs y : Float) → source_sphere_place p xs y ≡ place p en xs (ordinate p y)
  unfolding place ordinate
  sphere_place en xs y =
      let ys = p.lat0 ⊕ (y ⊖ p.false_northing) ⊘ p.a in
      rw (zero, sphere_steps en ys (xs ⊗ xs ⊕ ys ⊗ ys), sphere_end xs (latitude (point p en ys (xs ⊗ xs ⊕ ys ⊗ ys))))

-- ---- where it is not
module _ (p : AmericanPolyconic) (other : (p.e2 ≈ +0) ≡ false) where
  ellipsoid_end : (xs : Float) (s : Result Float Refusal) → source_ellipsoid_end p xs s ≡ at_latitude p xs s
  unfolding at_latitude sin_e
  ellipsoid_end xs (Ok phi) = rw other
  ellipsoid_end xs (Err r) = refl

  ellipsoid_steps : (en : List Float) (ys b : Float) → iterate (ellipsoid_step (point p en ys b)) STEPS ys ≡ latitude (point p en ys b)
  unfolding latitude step
  ellipsoid_steps en ys b = ap (λ (f : Float → Result Step Refusal). iterate f STEPS ys) (fun_ext (λ phi. rw other))

  ellipsoid_place : (en : List Float) (xs y : Float) → source_ellipsoid_place p en xs y ≡ place p en xs (ordinate p y)
  unfolding place ordinate
  ellipsoid_place en xs y =
      let ys = (y ⊖ p.false_northing) ⊘ p.a ⊕ p.ml0 in
      rw (
        other,
        add_commutes binary64 (ys ⊗ ys) (xs ⊗ xs),
        ellipsoid_steps en ys (xs ⊗ xs ⊕ ys ⊗ ys),
        ellipsoid_end xs (latitude (point p en ys (xs ⊗ xs ⊕ ys ⊗ ys))),
      )

pub formula_as_in_source : (p : AmericanPolyconic) (en : List Float) (x y : Float) → source_formula p en x y ≡ formula p en x y
unfolding formula
formula_as_in_source p en x y = ap (result_and (validate_projected x y)) (go (p.e2 ≈ +0) refl)
  where
    xs : Float
    xs = (x ⊖ p.false_easting) ⊘ p.a

    go : (b : Bool) → (p.e2 ≈ +0) ≡ b → cond b (source_sphere_place p xs y) (source_ellipsoid_place p en xs y) ≡ place p en xs (ordinate p y)
    go true h = sphere_place p h en xs y
    go false h = ellipsoid_place p h en xs y
