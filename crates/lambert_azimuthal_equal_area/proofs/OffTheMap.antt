-- The second inverse is 30 for the clicks that document 02 names, and the first inverse elsewhere. It gives 30 for no other click.
use mathlib.Core.Path.{◌≡◌, refl}
use mathlib.Core.Bool.{Bool, true, false, not, cond, ◌&&◌}
use lib.Ieee.{Float}
use Rattle.float.specs.Operators.{◌⊖◌, ◌≺◌}
use Rattle.projection.specs.MapEdge.{beyond_edge}
use Rattle.projection.specs.Answer.{Answer}
use Rattle.projection.specs.declared.Frame.TheVariants.{Held, Refused}
use Rattle.projection.proofs.OffTheMap.{off_if, guard_off, finish_off, NeverOff, pair_never_off, cond_never_off, guard_never_off, finish_never_off}
use Rattle.lambert_azimuthal_equal_area.specs.LambertAzimuthalEqualArea.{RHO_EPSILON, EDGE}
use Rattle.lambert_azimuthal_equal_area.specs.Inverse.{judge, judged, spherical_formula, polar_place, north_polar_formula, south_polar_formula, oblique_formula, ellipsoidal_formula, place, formula, inverse}
use Rattle.lambert_azimuthal_equal_area.specs.OffTheMap.{off, ellipsoidal_off, spherical_off, off_map}
use Rattle.lambert_azimuthal_equal_area.specs.declared.Aspect.{Aspect}
use Rattle.lambert_azimuthal_equal_area.specs.declared.Aspect.TheVariants.{Oblique, NorthPolar, SouthPolar}
use Rattle.lambert_azimuthal_equal_area.specs.declared.LambertAzimuthalEqualArea.{LambertAzimuthalEqualArea}
use Rattle.lambert_azimuthal_equal_area.specs.declared.inverse.Click.TheVariants.{AtCentre, InFrame, OnMap}

-- ---- 30 or the first

module _ (rho quotient : Float) (centre place_there : Answer) where
  judged_off : judged (judge Refused rho quotient) centre place_there ≡ off_if (off rho quotient) (judged (judge Held rho quotient) centre place_there)
  unfolding judge judged beyond_edge
  judged_off = go (rho ≺ RHO_EPSILON) (EDGE ≺ quotient)
    where
      go : (b e : Bool)
          → judged (cond b AtCentre (cond e InFrame OnMap)) centre place_there
          ≡ off_if (not b && e) (judged (cond b AtCentre OnMap) centre place_there)
      go true e = refl
      go false true = refl
      go false false = refl

  -- the first gives no 30 itself
  judged_never_off : NeverOff centre → NeverOff place_there → NeverOff (judged (judge Held rho quotient) centre place_there)
  unfolding judge judged beyond_edge
  judged_never_off h k = go (rho ≺ RHO_EPSILON)
    where
      go : (b : Bool) → NeverOff (judged (cond b AtCentre OnMap) centre place_there)
      go true = h
      go false = k

module _ (p : LambertAzimuthalEqualArea) (dx dy : Float) where
  ellipsoidal_is : (aspect : Aspect) → ellipsoidal_formula aspect Refused p dx dy ≡ off_if (ellipsoidal_off aspect p dx dy) (ellipsoidal_formula aspect Held p dx dy)
  unfolding ellipsoidal_formula north_polar_formula south_polar_formula polar_place oblique_formula
  ellipsoidal_is NorthPolar = judged_off _ _ _ _
  ellipsoidal_is SouthPolar = judged_off _ _ _ _
  ellipsoidal_is Oblique = judged_off _ _ _ _

  ellipsoidal_never_off : (aspect : Aspect) → NeverOff (ellipsoidal_formula aspect Held p dx dy)
  unfolding ellipsoidal_formula north_polar_formula south_polar_formula polar_place oblique_formula
  ellipsoidal_never_off NorthPolar = judged_never_off _ _ _ _ (pair_never_off _ _) (pair_never_off _ _)
  ellipsoidal_never_off SouthPolar = judged_never_off _ _ _ _ (pair_never_off _ _) (pair_never_off _ _)
  ellipsoidal_never_off Oblique = judged_never_off _ _ _ _ (pair_never_off _ _) (pair_never_off _ _)

  spherical_is : spherical_formula Refused p dx dy ≡ off_if (spherical_off p dx dy) (spherical_formula Held p dx dy)
  unfolding spherical_formula
  spherical_is = judged_off _ _ _ _

  spherical_never_off : NeverOff (spherical_formula Held p dx dy)
  unfolding spherical_formula
  spherical_never_off = judged_never_off _ _ _ _ (pair_never_off _ _) (pair_never_off _ _)

  place_is : place Refused p dx dy ≡ off_if (cond p.spherical (spherical_off p dx dy) (ellipsoidal_off p.aspect p dx dy)) (place Held p dx dy)
  unfolding place
  place_is = go p.spherical
    where
      go : (b : Bool)
          → cond b (spherical_formula Refused p dx dy) (ellipsoidal_formula p.aspect Refused p dx dy)
          ≡ off_if (cond b (spherical_off p dx dy) (ellipsoidal_off p.aspect p dx dy))
          (cond b (spherical_formula Held p dx dy) (ellipsoidal_formula p.aspect Held p dx dy))
      go true = spherical_is
      go false = ellipsoidal_is p.aspect

module _ (p : LambertAzimuthalEqualArea) (x y : Float) where
  pub formula_is : formula Refused p x y ≡ off_if (off_map p x y) (formula Held p x y)
  unfolding formula
  formula_is =
      rw (place_is p (x ⊖ p.false_easting) (y ⊖ p.false_northing))
      (guard_off x y _ (place Held p (x ⊖ p.false_easting) (y ⊖ p.false_northing)))

  pub inverse_is : inverse Refused p x y ≡ off_if (off_map p x y) (inverse Held p x y)
  unfolding inverse
  inverse_is = rw formula_is (finish_off (off_map p x y) (formula Held p x y))

  pub first_never_off : NeverOff (inverse Held p x y)
  unfolding inverse formula place
  first_never_off =
      finish_never_off (formula Held p x y)
      (guard_never_off x y _ (cond_never_off p.spherical (spherical_never_off p _ _) (ellipsoidal_never_off p _ _ p.aspect)))
