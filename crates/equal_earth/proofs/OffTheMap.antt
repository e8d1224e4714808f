-- The second inverse is 30 for the clicks that document 02 names, and the first inverse elsewhere. It gives 30 for no other click.
use mathlib.Core.Path.{◌≡◌, refl}
use mathlib.Core.Bool.{Bool, true, false, ◌||◌}
use native.Mathlib.Omega.{arith}
use lib.Ieee.{Float, neg}
use Rattle.float.specs.Operators.{◌⊖◌, ◌⊗◌, ◌⊘◌, ◌≺◌}
use Rattle.float.specs.Sign.{abs}
use Rattle.float.specs.Limits.{clamp}
use Rattle.std.specs.Prelude.{Result, Ok, Err}
use Rattle.refusals.specs.Refusals.{other_number}
use Rattle.refusals.specs.declared.Refusal.{Refusal}
use Rattle.refusals.specs.declared.Refusal.TheVariants.{StepsUsedUp}
use Rattle.projection.specs.MapEdge.{beyond_edge}
use Rattle.projection.specs.declared.Frame.TheVariants.{Held, Refused}
use Rattle.projection.proofs.OffTheMap.{off_if, guard_off, finish_off, NeverOff, pair_never_off, refused_never_off, guard_never_off, finish_never_off, used_up}
use Rattle.equal_earth.specs.EqualEarth.{MAX_Y, EDGE_Y, TOLERANCE, STEPS, newton, psi_of_northing, place, scaled_place, formula, inverse}
use Rattle.equal_earth.specs.OffTheMap.{off_longitude, off_scaled, off_map}
use Rattle.equal_earth.specs.declared.EqualEarth.{EqualEarth}

module _ (p : EqualEarth) (xs : Float) where
  place_is : (s : Result Float Refusal) → place Refused p xs s ≡ off_if (off_longitude xs s) (place Held p xs s)
  unfolding place beyond_edge
  place_is (Ok psi) = refl
  place_is (Err r) = refl

  -- the first gives no 30 itself: rounds that are used up give 22
  place_never_off : (s : Result Float Refusal) → ((r : Refusal) → s ≡ Err r → r ≡ StepsUsedUp) → NeverOff (place Held p xs s)
  unfolding place beyond_edge
  place_never_off (Ok psi) h = pair_never_off _ _
  place_never_off (Err r) h = rw (h r refl) (refused_never_off StepsUsedUp (other_number _ _ (λ e. omega (arith, e))))

  scaled_is : (ys : Float) → scaled_place Refused p xs ys ≡ off_if (off_scaled xs ys) (scaled_place Held p xs ys)
  unfolding scaled_place beyond_edge
  scaled_is ys = rw (place_is s) (go (EDGE_Y ≺ abs ys) (off_longitude xs s))
    where
      s : Result Float Refusal
      s = psi_of_northing (clamp ys (neg MAX_Y) MAX_Y)

      go : (b e : Bool) → off_if b (off_if e (place Held p xs s)) ≡ off_if (b || e) (place Held p xs s)
      go true e = refl
      go false e = refl

module _ (p : EqualEarth) (x y : Float) where
  pub formula_is : formula Refused p x y ≡ off_if (off_map p x y) (formula Held p x y)
  unfolding formula
  formula_is =
      let scale = p.a ⊗ p.rqda in
      rw (scaled_is p ((x ⊖ p.false_easting) ⊘ scale) ((y ⊖ p.false_northing) ⊘ scale)) (guard_off x y _ _)

  pub inverse_is : inverse Refused p x y ≡ off_if (off_map p x y) (inverse Held p x y)
  unfolding inverse
  inverse_is = rw formula_is (finish_off (off_map p x y) (formula Held p x y))

  pub first_never_off : NeverOff (inverse Held p x y)
  unfolding inverse formula scaled_place beyond_edge psi_of_northing
  first_never_off =
      finish_never_off (formula Held p x y)
      (guard_never_off x y _ (place_never_off p _ _ (λ n e. used_up (newton _) TOLERANCE _ STEPS n e)))
