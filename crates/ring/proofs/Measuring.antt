-- From the corners and the way round to the answer.
use Prim.Native.Nat.{ℕ, suc, ◌+◌, ◌<◌, ◌≤◌}
use mathlib.Core.Path.{◌≡◌, refl, sym, ap, ◌∙◌}
use mathlib.Core.Bool.{Bool, true, false, cond, ◌&&◌, and-eq-true_iff}
use mathlib.Core.List.{List, [], ◌∷◌, ◌++◌, map}
use native.Mathlib.Omega.{arith}
use borrow.Author.Tests.{eqb-true, leb-true}
use lib.Dec.{eqb, leb}
use lib.ListN.{length, get_or, drop, set, length-map}
use lib.Seq.{sets-eq}
use lib.Ieee.{Float, nan}
use lib.Ieee.Scale.{finite}
use Rattle.float.specs.Operators.{◌⊕◌, ◌⊗◌}
use Rattle.float.specs.Constants.{half}
use Rattle.std.specs.Prelude.{Result, Ok, Err}
use Rattle.std.specs.Result.{result_and}
use Rattle.refusals.specs.declared.Refusal.{Refusal}
use Rattle.refusals.specs.declared.Refusal.TheVariants.{RingForm, RingResult}
use Rattle.refusals.proofs.Refused.{refused}
use Rattle.projection.specs.Checks.{Check, passed}
use Rattle.kinds.specs.declared.Built.{Built}
use Rattle.kinds.specs.declared.Projection.{Projection}
use Rattle.ring.specs.declared.edge.Point.{Point}
use Rattle.ring.specs.declared.tally.Tally.{Tally}
use Rattle.ring.specs.Edge.{Points, answered, points_of, place}
use Rattle.ring.specs.Ring.{before, corners, around, closed, ring, term, sum_from, area, keeps_areas, ring_fault, judged, ring_area}
use Rattle.ring.specs.Stored.{stored}
use Rattle.ring.specs.Tally.{started, counted, counted_all, walked, tally_area, rest, first_of, Laid}
use Rattle.ring.proofs.Counting.{all_points}
use Rattle.ring.proofs.InRingOrder.{first_apart}

-- ---- the lists

sound_if : (b : Bool) → cond b passed (Err RingForm) ≡ passed → b ≡ true
sound_if true e = refl
sound_if false e = refused e

sound_built : (q : Result Built Refusal) (b : Bool) → result_and q (cond b passed (Err RingForm)) ≡ passed → b ≡ true
sound_built (Ok x) b e = sound_if b e
sound_built (Err k) b e = refused e

pub record Sound (lons lats : ℕ) : Type 0 where
  pub even : lats ≡ lons
  pub fewest : 3 ≤ lons
  pub most : lons ≤ 4096

pub sound : (p : Projection) (lons lats : ℕ) → ring_fault p lons lats ≡ passed → Sound lons lats
unfolding ring_fault
sound p lons lats e =
    let all = sound_built p.built _ e in
    let c = (and-eq-true_iff _ (leb lons 4096)).0 all in
    let b = (and-eq-true_iff _ (leb 3 lons)).0 c.0 in
    let a = (and-eq-true_iff (keeps_areas p.built) (eqb lats lons)).0 b.0 in
    record { even = eqb-true _ _ a.1; fewest = leb-true _ _ b.1; most = leb-true _ _ c.1 }

-- ---- the corners

module _ (p : Projection) where
  from_first : (first : Point) (r : Result Point Refusal) (d : Points) → first_of (before r d) ≡ Ok first
      → (answered d ≡ true) × (closed p (before r d) ≡ before (Ok first) (around p first first (points_of d)))
  unfolding before first_of closed
  from_first first (Err k) d e = refused e
  from_first first (Ok a) (Err k) e = refused e
  from_first first (Ok a) (Ok l) e =
      let h : a ≡ first = cc in
      (refl, ap (λ x. before (Ok x) (around p x x l)) h)

  from_none : (k : Refusal) (r : Result Point Refusal) (d : Points) → first_of (before r d) ≡ Err k → closed p (before r d) ≡ Err k
  unfolding before first_of closed
  from_none k (Err j) d e = let h : j ≡ k = cc in ap Err h
  from_none k (Ok a) (Err j) e = let h : j ≡ k = cc in ap Err h
  from_none k (Ok a) (Ok l) e = refused (sym e)

  -- lists and a projection that pass
  module _ (lon lat : List Float) (n : Check) (e : n ≡ ring_fault p (length lon) (length lat)) (z : n ≡ passed) where
    lists : Sound (length lon) (length lat)
    lists = sound p _ _ (sym e ∙ z)

    pub for_corners : (0 < length lon) × (length lat ≡ length lon)
    for_corners = (omega (arith, lists.fewest), lists.even)

    pub for_walk : (0 < length lon) × (length lon ≤ 4096) × (length lat ≡ length lon)
    for_walk = (for_corners.0, lists.most, lists.even)

    apart : corners p lon lat ≡ before (place p (get_or lon 0 nan) (get_or lat 0 nan)) (corners p (drop 1 lon) (drop 1 lat))
    apart = first_apart p lon lat nan for_corners.0 for_corners.1 _ _ refl refl

    module _ (r : Result Point Refusal) (f : r ≡ first_of (corners p lon lat)) where
      pub corners_refused : (k : Refusal) → r ≡ Err k → ring p lon lat ≡ Err k
      unfolding ring
      corners_refused k q = ap (closed p) apart ∙ from_none k (place p (get_or lon 0 nan) (get_or lat 0 nan)) (corners p (drop 1 lon) (drop 1 lat)) (ap first_of (sym apart) ∙ (sym f ∙ q))

      module _ (first : Point) (q : r ≡ Ok first) where
        both : (answered (corners p (drop 1 lon) (drop 1 lat)) ≡ true) × (closed p (before (place p (get_or lon 0 nan) (get_or lat 0 nan)) (corners p (drop 1 lon) (drop 1 lat))) ≡ before (Ok first) (rest p first lon lat))
        both = from_first first (place p (get_or lon 0 nan) (get_or lat 0 nan)) (corners p (drop 1 lon) (drop 1 lat)) (ap first_of (sym apart) ∙ (sym f ∙ q))

        pub others_answered : answered (corners p (drop 1 lon) (drop 1 lat)) ≡ true
        others_answered = both.0

        pub ring_whole : ring p lon lat ≡ before (Ok first) (rest p first lon lat)
        unfolding ring
        ring_whole = ap (closed p) apart ∙ both.1

-- ---- the way round

pub round_stopped : (first : Point) (t : Tally) (q : Points) (k : Refusal) → walked t q ≡ Err k → before (Ok first) q ≡ Err k
unfolding walked before
round_stopped first t (Ok l) k e = refused (sym e)
round_stopped first t (Err j) k e = let h : j ≡ k = cc in ap Err h

-- the tally's sum, with the term to the first point, is the sum of the terms
sums : (first : Point) (t : Tally) (l : List Point) → ((counted_all t l).sum ⊕ term (counted_all t l).last first) ≡ sum_from first t.sum t.last l
unfolding counted_all counted sum_from
sums first t [] = refl
sums first t (m ∷ l) = sums first (counted t m) l

module _ (first : Point) (l : List Point) where
  many_of : (counted_all (started first) l).points ≡ suc (length l)
  unfolding started
  many_of = all_points (started first) l ∙ omega arith

  area_of : tally_area (counted_all (started first) l) first ≡ area (first ∷ l)
  unfolding tally_area area started
  area_of = ap (λ x. half ⊗ x) (sums first (started first) l)

-- what the points come to where none is refused
pub record Rounded (first : Point) (q : Points) (t : Tally) : Type 0 where
  pub whole : before (Ok first) q ≡ Ok (first ∷ points_of q)
  pub all : answered q ≡ true
  pub many : t.points ≡ suc (length (points_of q))
  pub half_sum : tally_area t first ≡ area (first ∷ points_of q)

pub round_done : (first : Point) (t : Tally) (q : Points) → walked (started first) q ≡ Ok t → Rounded first q t
unfolding walked before
round_done first t (Err k) e = refused e
round_done first t (Ok l) e =
    let h : counted_all (started first) l ≡ t = cc in
    record { whole = refl; all = refl; many = rw (← h) (many_of first l); half_sum = rw (← h) (area_of first l) }

-- ---- the answer

module _ (p : Projection) (lon lat : List Float) (eastings northings : ℕ) where
  pub says_fault : (n : Check) (k : Refusal) → n ≡ ring_fault p (length lon) (length lat) → n ≡ Err k → Err k ≡ ring_area p lon lat eastings northings
  unfolding ring_area
  says_fault n k e z = rw (← e, z) refl

  module _ (n : Check) (e : n ≡ ring_fault p (length lon) (length lat)) (z : n ≡ passed) where
    judged_all : ring_area p lon lat eastings northings ≡ judged eastings northings (ring p lon lat)
    unfolding ring_area
    judged_all = rw (← e, z) refl

    pub says_refused : (k : Refusal) → ring p lon lat ≡ Err k → Err k ≡ ring_area p lon lat eastings northings
    says_refused k q = sym (judged_all ∙ ap (judged eastings northings) q)

    module _ (first : Point) (q : Points) (t : Tally) (r : Rounded first q t) (g : ring p lon lat ≡ before (Ok first) q) (x : Float) (f : x ≡ tally_area t first)
        (b : Bool) (h : ((leb t.points eastings && leb t.points northings) && finite x) ≡ b) where
      pub says_so : cond b (Ok (record { area = x; points = t.points })) (Err RingResult) ≡ ring_area p lon lat eastings northings
      says_so = sym (judged_all ∙ (ap (judged eastings northings) (g ∙ r.whole) ∙ rw (← r.half_sum, ← f, ← r.many, h) refl))

-- ---- the buffers

pub both_long : (n a b : ℕ) (f : Bool) → ((leb n a && leb n b) && f) ≡ true → (n ≤ a) × (n ≤ b)
both_long n a b f h =
    let d = (and-eq-true_iff (leb n a) (leb n b)).0 ((and-eq-true_iff (leb n a && leb n b) f).0 h).0 in
    (leb-true _ _ d.0, leb-true _ _ d.1)

module _ (part : Point → Float) (p : Projection) (lon lat old new : List Float) (first : Point) (q : Points) (t : Tally) where
  pub holds_points : Rounded first q t → ring p lon lat ≡ before (Ok first) q → (x : Float) → t.points ≤ length old → Laid part (set old 0 (part first)) 1 q new
      → new ≡ stored part (Ok (record { area = x; points = t.points })) (ring p lon lat) old
  unfolding stored
  holds_points r g x h laid =
      let n : length (map part (first ∷ points_of q)) ≡ t.points = length-map (first ∷ points_of q) part ∙ sym r.many in
      let m : 0 + length (map part (first ∷ points_of q)) ≡ t.points = omega arith in
      laid r.all ∙ (sets-eq (map part (first ∷ points_of q)) old 0 (omega arith)
      ∙ (ap (λ k. map part (first ∷ points_of q) ++ drop k old) m ∙ ap (λ w. map part (points_of w) ++ drop t.points old) (sym (g ∙ r.whole))))
