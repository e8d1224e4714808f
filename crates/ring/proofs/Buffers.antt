-- What the buffers hold after the call, by the contract's own words.
use Prim.Native.Nat.{ℕ}
use mathlib.Core.Path.{◌≡◌, refl, sym, ◌∙◌}
use mathlib.Core.List.{List, map}
use lib.ListN.{length, length-map, drop, take}
use lib.Seq.{take_at, drop_at}
use lib.Ieee.{Float}
use Rattle.std.specs.Prelude.{Ok, Err}
use Rattle.refusals.specs.declared.Refusal.{Refusal}
use Rattle.kinds.specs.declared.Projection.{Projection}
use Rattle.ring.specs.declared.RingArea.{RingArea}
use Rattle.ring.specs.declared.edge.Point.{Point}
use Rattle.ring.specs.Edge.{Points, points_of}
use Rattle.ring.specs.Ring.{ring, ring_area}
use Rattle.ring.specs.Stored.{stored}
use Rattle.ring.proofs.HowMany.{measured_points}

-- a refusal leaves a buffer as it was
pub left_alone : (part : Point → Float) (k : Refusal) (q : Points) (old : List Float) → stored part (Err k) q old ≡ old
unfolding stored
left_alone part k q old = refl

-- of a ring that is measured
module _ (part : Point → Float) (old : List Float) (p : Projection) (lon lat : List Float) (eastings northings : ℕ) (r : RingArea) (e : ring_area p lon lat eastings northings ≡ Ok r) where
  so_many : length (map part (points_of (ring p lon lat))) ≡ r.points
  so_many = length-map (points_of (ring p lon lat)) part ∙ sym (measured_points p lon lat eastings northings r e).1

  -- the first places hold the points
  pub first_places : take r.points (stored part (Ok r) (ring p lon lat) old) ≡ map part (points_of (ring p lon lat))
  unfolding stored
  first_places = take_at (map part (points_of (ring p lon lat))) (drop r.points old) r.points so_many

  -- a place past the last point is never touched
  pub later_places : drop r.points (stored part (Ok r) (ring p lon lat) old) ≡ drop r.points old
  unfolding stored
  later_places = drop_at (map part (points_of (ring p lon lat))) (drop r.points old) r.points so_many
