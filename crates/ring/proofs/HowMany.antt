-- How many points a ring has: at least its corners, and at most 1,024 times as many.
use Prim.Native.Nat.{ℕ, ◌+◌, ◌*◌, ◌≤◌}
use mathlib.Core.Path.{◌≡◌, refl, sym, ap, ◌∙◌}
use mathlib.Core.Bool.{Bool, true, false, cond, ◌&&◌}
use mathlib.Core.List.{List, [], ◌∷◌, ◌++◌}
use native.Mathlib.Omega.{arith}
use lib.ListN.{length, length-append}
use lib.Dec.{leb}
use lib.Ieee.{Float}
use lib.Ieee.Scale.{finite}
use Rattle.std.specs.Prelude.{Result, Ok, Err}
use Rattle.std.specs.Result.{result_and}
use Rattle.refusals.specs.declared.Refusal.{Refusal}
use Rattle.refusals.specs.declared.Refusal.TheVariants.{RingResult}
use Rattle.refusals.proofs.Refused.{refused}
use Rattle.projection.specs.Checks.{Check, passed}
use Rattle.kinds.specs.declared.Projection.{Projection}
use Rattle.ring.specs.declared.RingArea.{RingArea}
use Rattle.ring.specs.declared.edge.Point.{Point}
use Rattle.ring.specs.Edge.{Points, points_of, place, join, edge}
use Rattle.ring.specs.Ring.{DEPTH, before, corners, around, closed, ring, area, judged, ring_fault, ring_area}
use Rattle.ring.proofs.Edges.{edge_few}
use Rattle.ring.proofs.Measuring.{sound}

-- ---- of what is answered, each part is

-- it is made of both parts
pub join_points : (q : Points) (m : Point) (r : Points) (l : List Point) → join q m r ≡ Ok l
    → (q ≡ Ok (points_of q)) × (r ≡ Ok (points_of r)) × (l ≡ points_of q ++ m ∷ points_of r)
unfolding join
join_points (Err k) m r l e = refused e
join_points (Ok u) m (Err k) l e = refused e
join_points (Ok u) m (Ok v) l e = let h : u ++ m ∷ v ≡ l = cc in (refl, refl, sym h)

pub before_points : (r : Result Point Refusal) (q : Points) (l : List Point) → before r q ≡ Ok l → q ≡ Ok (points_of q)
unfolding before
before_points (Err k) q l e = refused e
before_points (Ok a) (Err k) l e = refused e
before_points (Ok a) (Ok u) l e = refl

-- ---- the way round

module _ (p : Projection) (first : Point) where
  pub around_many : (a : Point) (l m : List Point) → around p first a l ≡ Ok m → (length l ≤ length m) × (length m ≤ 1023 + 1024 * length l)
  unfolding around
  around_many a [] m e =
      let n = edge_few p DEPTH a first in
      let h : length (points_of (edge p DEPTH a first)) ≡ length m = ap (λ q. length (points_of q)) e in
      (omega arith, omega (arith, n, h))
  around_many a (b ∷ l) m e =
      let j = join_points (edge p DEPTH a b) b (around p first b l) m e in
      let r = around_many b l (points_of (around p first b l)) j.1 in
      let h = ap length j.2 ∙ length-append (points_of (edge p DEPTH a b)) (b ∷ points_of (around p first b l)) in
      (omega (arith, h, r.0), omega (arith, h, r.1, edge_few p DEPTH a b))

one_more : (x : Float) (lon : List Float) (r : Result Point Refusal) (q : Points) (l : List Point) → ((u : List Point) → q ≡ Ok u → length u ≡ length lon)
    → before r q ≡ Ok l → length l ≡ length (x ∷ lon)
unfolding before
one_more x lon (Err k) q l ih e = refused e
one_more x lon (Ok a) (Err k) l ih e = refused e
one_more x lon (Ok a) (Ok u) l ih e =
    let n = ih u refl in
    let g : a ∷ u ≡ l = cc in
    ap length (sym g) ∙ omega (arith, n)

-- a point for each pair of coordinates
pub corners_many : (p : Projection) (lon lat : List Float) (l : List Point) → corners p lon lat ≡ Ok l → length lat ≡ length lon → length l ≡ length lon
unfolding corners
corners_many p [] lat l e h = let g : [] ≡ l = cc in ap length (sym g)
corners_many p (x ∷ lon) [] l e h = absurd (omega (arith, h))
corners_many p (x ∷ lon) (y ∷ lat) l e h = one_more x lon (place p x y) (corners p lon lat) l (λ u f. corners_many p lon lat u f (omega (arith, h))) e

-- ---- the ring

from_first : (p : Projection) (c : Point) (cs l : List Point) (q : Points) → around p c c cs ≡ q → before (Ok c) q ≡ Ok l
    → (length (c ∷ cs) ≤ length l) × (length l ≤ 1024 * length (c ∷ cs))
unfolding before
from_first p c cs l (Err k) f g = refused g
from_first p c cs l (Ok m) f g =
    let n = around_many p c c cs m f in
    let h : c ∷ m ≡ l = cc in
    let k = ap length h in
    (omega (arith, n.0, k), omega (arith, n.1, k))

pub closed_many : (p : Projection) (q : Points) (l : List Point) → closed p q ≡ Ok l → (length (points_of q) ≤ length l) × (length l ≤ 1024 * length (points_of q))
unfolding closed
closed_many p (Err k) l e = refused e
closed_many p (Ok []) l e = let g : [] ≡ l = cc in (omega arith, omega (arith, ap length g))
closed_many p (Ok (c ∷ cs)) l e = from_first p c cs l (around p c c cs) refl e

-- the corners of what is answered are
pub closed_corners : (p : Projection) (q : Points) (l : List Point) → closed p q ≡ Ok l → q ≡ Ok (points_of q)
unfolding closed
closed_corners p (Err k) l e = refused e
closed_corners p (Ok cs) l e = refl

-- ---- the answer

counted_if : (t : Bool) (r s : RingArea) → cond t (Ok s) (Err RingResult) ≡ Ok r → r.points ≡ s.points
counted_if true r s e = let h : s ≡ r = cc in ap (λ (q : RingArea). q.points) (sym h)
counted_if false r s e = refused e

-- what is measured is answered, and its number is that of the points
judged_points : (a b : ℕ) (q : Points) (r : RingArea) → judged a b q ≡ Ok r → (q ≡ Ok (points_of q)) × (r.points ≡ length (points_of q))
judged_points a b (Err k) r e = refused e
judged_points a b (Ok l) r e = (refl, counted_if ((leb (length l) a && leb (length l) b) && finite (area l)) r (record { area = area l; points = length l }) e)

checked : {A : Type 0} (c : Check) (a : Result A Refusal) (x : A) → result_and c a ≡ Ok x → (c ≡ passed) × (a ≡ Ok x)
checked (Ok u) a x e = (refl, e)
checked (Err k) a x e = refused e

module _ (p : Projection) (lon lat : List Float) (eastings northings : ℕ) (r : RingArea) (e : ring_area p lon lat eastings northings ≡ Ok r) where
  both : (ring_fault p (length lon) (length lat) ≡ passed) × (judged eastings northings (ring p lon lat) ≡ Ok r)
  unfolding ring_area
  both = checked _ _ r e

  -- the points that were measured
  pub measured_points : (ring p lon lat ≡ Ok (points_of (ring p lon lat))) × (r.points ≡ length (points_of (ring p lon lat)))
  measured_points = judged_points eastings northings (ring p lon lat) r both.1

  pub measured_corners : corners p lon lat ≡ Ok (points_of (corners p lon lat))
  unfolding ring
  measured_corners = closed_corners p (corners p lon lat) _ measured_points.0

  pub measured_even : length lat ≡ length lon
  measured_even = (sound p _ _ both.0).even

  pub how_many : (length lon ≤ r.points) × (r.points ≤ 1024 * length lon)
  unfolding ring
  how_many =
      let m = closed_many p (corners p lon lat) _ measured_points.0 in
      let c = corners_many p lon lat _ measured_corners measured_even in
      (omega (arith, m.0, c, measured_points.1), omega (arith, m.1, c, measured_points.1))
