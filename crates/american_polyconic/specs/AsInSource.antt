-- The inverse as the source writes it: the sphere's and the ellipsoid's apart, and on the ellipsoid ys² + xs², where we have one order for both.
-- proofs/AsInSource: for every f64, NaN too, its place is what our formula gives.
use Rattle.std.specs.Prelude.{cond, List, Float, Result, Ok, Err}
use Rattle.std.specs.Result.{result_and}
use Rattle.float.specs.Operators.{◌⊕◌, ◌⊖◌, ◌⊗◌, ◌⊘◌, ◌≼◌, ◌≈◌}
use Rattle.float.specs.Constants.{+0}
use Rattle.float.specs.Sign.{abs}
use Rattle.trigonometry.specs.Trigonometry.{sine, tangent}
use Rattle.fixed.specs.Arctangent.{arcsine}
use Rattle.refusals.specs.declared.Refusal.{Refusal}
use Rattle.projection.specs.Answer.{Answer}
use Rattle.projection.specs.Checks.{validate_projected}
use Rattle.projection.specs.Iteration.{iterate}
use Rattle.american_polyconic.specs.Tolerances.{EQUATOR_TOL, STEPS}
use Rattle.american_polyconic.specs.Newton.{nu, sphere_step, ellipsoid_step}
use Rattle.american_polyconic.specs.declared.AmericanPolyconic.{AmericanPolyconic}

-- what follows the sphere's loop
abbrev pub source_sphere_end : AmericanPolyconic → Float → Result Float Refusal → Answer
source_sphere_end p xs (Ok phi) = Ok (p.lon0 ⊕ arcsine (xs ⊗ tangent phi) ⊘ sine phi, phi)
source_sphere_end p xs (Err r) = Err r

abbrev pub source_sphere_place : AmericanPolyconic → Float → Float → Answer
source_sphere_place p xs y =
    let ys = p.lat0 ⊕ (y ⊖ p.false_northing) ⊘ p.a in
    let b = xs ⊗ xs ⊕ ys ⊗ ys in
    cond (abs ys ≼ EQUATOR_TOL) (Ok (p.lon0 ⊕ xs, +0)) (source_sphere_end p xs (iterate (λ phi. Ok (sphere_step ys b phi)) STEPS ys))

-- what follows the ellipsoid's loop
abbrev pub source_ellipsoid_end : AmericanPolyconic → Float → Result Float Refusal → Answer
source_ellipsoid_end p xs (Ok phi) = Ok (p.lon0 ⊕ arcsine (xs ⊗ tangent phi ⊗ nu p.e2 (sine phi)) ⊘ sine phi, phi)
source_ellipsoid_end p xs (Err r) = Err r

abbrev pub source_ellipsoid_place : AmericanPolyconic → List Float → Float → Float → Answer
source_ellipsoid_place p en xs y =
    let ys = (y ⊖ p.false_northing) ⊘ p.a ⊕ p.ml0 in
    let r = ys ⊗ ys ⊕ xs ⊗ xs in
    cond (abs ys ≼ EQUATOR_TOL) (Ok (p.lon0 ⊕ xs, +0)) (source_ellipsoid_end p xs (iterate (ellipsoid_step (record { e2 = p.e2; en = en; ys = ys; b = r })) STEPS ys))

abbrev pub source_formula : AmericanPolyconic → List Float → Float → Float → Answer
source_formula p en x y =
    let xs = (x ⊖ p.false_easting) ⊘ p.a in
    result_and (validate_projected x y) (cond (p.e2 ≈ +0) (source_sphere_place p xs y) (source_ellipsoid_place p en xs y))
