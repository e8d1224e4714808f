-- Every corner is among the points, in ring order.
use Prim.Native.Nat.{ℕ}
use mathlib.Core.Path.{◌≡◌, refl}
use mathlib.Core.Logic.{inl, inr}
use mathlib.Core.List.{List, [], ◌∷◌, ◌++◌}
use native.Mathlib.Omega.{arith}
use lib.ListN.{length}
use lib.Ieee.{Float}
use Rattle.std.specs.Prelude.{Ok, Err}
use Rattle.refusals.proofs.Refused.{refused}
use Rattle.projection.specs.Answer.{Answer}
use Rattle.kinds.specs.Kinds.{forward}
use Rattle.kinds.specs.declared.Projection.{Projection}
use Rattle.ring.specs.InOrder.{AtCorners, InOrder}
use Rattle.ring.specs.declared.RingArea.{RingArea}
use Rattle.ring.specs.declared.edge.Point.{Point}
use Rattle.ring.specs.Edge.{Points, points_of, put, place, edge}
use Rattle.ring.specs.Ring.{DEPTH, before, corners, around, closed, ring, ring_area}
use Rattle.ring.proofs.HowMany.{join_points, measured_points, measured_corners, measured_even}

-- a list before the next point stands between the others
after_these : (a : Point) (l u m : List Point) → InOrder l m → InOrder (a ∷ l) (u ++ a ∷ m)
after_these a l [] m h = inl (refl, h)
after_these a l (b ∷ u) m h = inr (after_these a l u m h)

module _ (p : Projection) (first : Point) where
  around_order : (a : Point) (l m : List Point) → around p first a l ≡ Ok m → InOrder l m
  unfolding around
  around_order a [] m e = tt
  around_order a (b ∷ l) m e =
      let j = join_points (edge p DEPTH a b) b (around p first b l) m e in
      rw j.2 (after_these b l (points_of (edge p DEPTH a b)) (points_of (around p first b l)) (around_order b l (points_of (around p first b l)) j.1))

from_first : (p : Projection) (c : Point) (cs l : List Point) (q : Points) → around p c c cs ≡ q → before (Ok c) q ≡ Ok l → InOrder (c ∷ cs) l
unfolding before
from_first p c cs l (Err k) f g = refused g
from_first p c cs l (Ok m) f g =
    let h : c ∷ m ≡ l = cc in
    rw (← h) (inl (refl, around_order p c c cs m f))

closed_order : (p : Projection) (q : Points) (l : List Point) → closed p q ≡ Ok l → InOrder (points_of q) l
unfolding closed
closed_order p (Err k) l e = tt
closed_order p (Ok []) l e = tt
closed_order p (Ok (c ∷ cs)) l e = from_first p c cs l (around p c c cs) refl e

-- ---- the corners are the places of both lists, where the projection puts them

module _ (p : Projection) (x y : Float) (lon lat : List Float) (l : List Point) where
  one_corner : (r : Answer) (q : Points) → forward p x y ≡ r → ((u : List Point) → q ≡ Ok u → AtCorners p lon lat u) → before (put x y r) q ≡ Ok l → AtCorners p (x ∷ lon) (y ∷ lat) l
  unfolding before
  one_corner (Err k) q f ih e = refused e
  one_corner (Ok (u, v)) (Err k) f ih e = refused e
  one_corner (Ok (u, v)) (Ok rest) f ih e =
      let h : record { lon = x; lat = y; easting = u; northing = v } ∷ rest ≡ l = cc in
      rw (← h) (refl, refl, f, ih rest refl)

at_corners : (p : Projection) (lon lat : List Float) (l : List Point) → corners p lon lat ≡ Ok l → length lat ≡ length lon → AtCorners p lon lat l
unfolding corners place
at_corners p [] [] l e h = let g : [] ≡ l = cc in rw (← g) tt
at_corners p [] (y ∷ lat) l e h = absurd (omega (arith, h))
at_corners p (x ∷ lon) [] l e h = absurd (omega (arith, h))
at_corners p (x ∷ lon) (y ∷ lat) l e h = one_corner p x y lon lat l (forward p x y) (corners p lon lat) refl (λ u f. at_corners p lon lat u f (omega (arith, h))) e

-- ---- of a ring that is measured

module _ (p : Projection) (lon lat : List Float) (eastings northings : ℕ) (r : RingArea) (e : ring_area p lon lat eastings northings ≡ Ok r) where
  pub corners_are : AtCorners p lon lat (points_of (corners p lon lat))
  corners_are = at_corners p lon lat _ (measured_corners p lon lat eastings northings r e) (measured_even p lon lat eastings northings r e)

  pub corners_among : InOrder (points_of (corners p lon lat)) (points_of (ring p lon lat))
  unfolding ring
  corners_among = closed_order p (corners p lon lat) _ (measured_points p lon lat eastings northings r e).0
