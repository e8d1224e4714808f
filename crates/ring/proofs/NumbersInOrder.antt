-- Which refusal comes before which.
use Prim.Native.Nat.{ℕ}
use mathlib.Core.Path.{◌≡◌, refl}
use mathlib.Core.Bool.{false}
use mathlib.Core.List.{List}
use lib.ListN.{length}
use lib.Ieee.{Float}
use Rattle.std.specs.Prelude.{Result, Ok, Err}
use Rattle.std.specs.Result.{result_and}
use Rattle.refusals.specs.Refusals.{number, number_of-positive}
use Rattle.refusals.specs.declared.Refusal.{Refusal}
use Rattle.refusals.specs.declared.Refusal.TheVariants.{RingForm}
use Rattle.projection.specs.Checks.{passed}
use Rattle.kinds.specs.Kinds.{built_number}
use Rattle.kinds.specs.declared.Projection.{Projection}
use Rattle.ring.specs.Ring.{ring, keeps_areas, ring_fault, ring_area}

after_built : {A B : Type 0} (q : Result A Refusal) (a : Result B Refusal) → number q ≡ 0 → result_and q a ≡ a
after_built (Ok x) a z = refl
after_built (Err k) a z = absurd (number_of-positive k z)

module _ (p : Projection) (lon lat : List Float) (eastings northings : ℕ) where
  -- a projection that was refused: its own refusal, before all others
  pub refused_projection : (k : Refusal) → p.built ≡ Err k → ring_area p lon lat eastings northings ≡ Err k
  unfolding ring_area ring_fault
  refused_projection k e = rw e refl

  -- a kind that keeps no areas: 27, whatever the lists and the buffers are
  pub another_kind : built_number p ≡ 0 → keeps_areas p.built ≡ false → ring_area p lon lat eastings northings ≡ Err RingForm
  unfolding ring_area ring_fault
  another_kind b k = rw (after_built p.built _ b, k) refl

  -- a refused point: its own refusal, however long the buffers are
  pub refused_point : (k : Refusal) → ring_fault p (length lon) (length lat) ≡ passed → ring p lon lat ≡ Err k → ring_area p lon lat eastings northings ≡ Err k
  unfolding ring_area
  refused_point k z e = rw (z, e) refl
