-- The corners, one after another.
use Prim.Native.Nat.{◌-◌, ◌<◌}
use denote.Ref.{Bor}
use mathlib.Core.Path.{◌≡◌, refl, sym, ap, ◌∙◌}
use mathlib.Core.Bool.{true, true≢false}
use mathlib.Core.List.{List, [], ◌∷◌}
use mathlib.Core.Logic.{◌⊎◌, inl, inr}
use native.Mathlib.Omega.{arith}
use lib.ListN.{length, get_or, take, drop}
use lib.Ieee.{Float}
use Rattle.std.specs.declared.iter.Zip.{Zip}
use Rattle.std.specs.declared.slice.Iter.{Iter}
use Rattle.std.proofs.iter.Yields.{fronts}
use Rattle.std.specs.Prelude.{Option, Some, None, Result, Ok, Err}
use Rattle.std.specs.Iterator.Adapters.{zip_first, zip_second}
use Rattle.std.specs.Slice.Iter.{iter_rest}
use Rattle.std.proofs.lemmas.Iterator.{zips}
use Rattle.std.proofs.lemmas.List.{take_rest}
use Rattle.std.proofs.lemmas.Slice.Zip.{Zip-more, either_empty_from_Zip}
use Rattle.refusals.specs.declared.Refusal.{Refusal}
use Rattle.kinds.specs.declared.Projection.{Projection}
use Rattle.ring.specs.declared.edge.Point.{Point}
use Rattle.ring.specs.Edge.{Points, answered, points_of, place}
use Rattle.ring.specs.Ring.{before, corners}
use Rattle.ring.specs.Tally.{first_of}

-- the pairs of coordinates that a loop has still to take
abbrev pub Pairs : Type 0
Pairs = Zip (Iter Float) (Iter Float)

abbrev pub ahead : Projection → Pairs → Points
ahead p s = corners p (iter_rest (zip_first s)) (iter_rest (zip_second s))

-- at first they are all but the first pair
pub all_pairs : (lon lat : List Float) (s t : Pairs) (i : Iter Float) → s ≡ t → zip_first t ≡ i → iter_rest i ≡ take (length lon - 1) (drop 1 lon) → iter_rest (zip_second t) ≡ take (length lat - 1) (drop 1 lat)
    → (iter_rest (zip_first s) ≡ drop 1 lon) × (iter_rest (zip_second s) ≡ drop 1 lat)
all_pairs lon lat s t i e f g h = (rw (e, f, g) (take_rest lon 1), rw (e, h) (take_rest lat 1))

no_more : (p : Projection) (lon : List Float) → corners p lon [] ≡ Ok []
unfolding corners
no_more p [] = refl
no_more p (x ∷ lon) = refl

module _ (p : Projection) where
  apart : (lon lat : List Float) (d : Float) → 0 < length lon → length lat ≡ length lon
      → corners p lon lat ≡ before (place p (get_or lon 0 d) (get_or lat 0 d)) (corners p (drop 1 lon) (drop 1 lat))
  unfolding corners
  apart [] lat d h e = absurd (omega (arith, h))
  apart (x ∷ lon) [] d h e = absurd (omega (arith, e))
  apart (x ∷ lon) (y ∷ lat) d h e = refl

  -- the first corner, and those after it
  pub first_apart : (lon lat : List Float) (d : Float) → 0 < length lon → length lat ≡ length lon → (a b : Result Point Refusal) → a ≡ place p (get_or lon 0 d) (get_or lat 0 d) → a ≡ b
      → corners p lon lat ≡ before b (corners p (drop 1 lon) (drop 1 lat))
  first_apart lon lat d h e a b f g = apart lon lat d h e ∙ rw (← f, g) refl

  module _ (s u : Pairs) (r : Option (Bor Float × Bor Float)) (h : zips fronts fronts s r u) where
    -- where a list ends there is no corner
    pub corners_end : r ≡ None → ahead p s ≡ Ok []
    unfolding corners
    corners_end e = by (either_empty_from_Zip s u r e h)
      where
        by : (iter_rest (zip_first s) ≡ []) ⊎ (iter_rest (zip_second s) ≡ []) → ahead p s ≡ Ok []
        by (inl n) = rw n refl
        by (inr n) = rw n (no_more p _)

    -- a corner more, and those after it
    pub corners_next : (q : Bor Float × Bor Float) → r ≡ Some q → (a b : Result Point Refusal) → a ≡ place p q.0.now q.1.now → a ≡ b → ahead p s ≡ before b (ahead p u)
    unfolding corners
    corners_next q e a b f g = let k = Zip-more s u r q e h in rw (k.0, k.1, ← f, g) refl

-- ---- the first corner, or the first refusal

pub first_refused : (a : Point) (q r : Points) (k : Refusal) → q ≡ before (Err k) r → first_of (before (Ok a) q) ≡ Err k
unfolding first_of before
first_refused a q r k e = rw e refl

pub first_stays : (a b : Point) (q r : Points) → q ≡ before (Ok b) r → first_of (before (Ok a) q) ≡ first_of (before (Ok a) r)
unfolding first_of before
first_stays a b q (Ok l) e = rw e refl
first_stays a b q (Err k) e = rw e refl

pub first_end : (a : Point) (q : Points) → q ≡ Ok [] → first_of (before (Ok a) q) ≡ Ok a
unfolding first_of before
first_end a q e = rw e refl

pub no_first : (q r : Points) (k : Refusal) → q ≡ before (Err k) r → first_of q ≡ Err k
unfolding first_of before
no_first q r k e = rw e refl

-- ---- where all corners are answered

pub corner_answered : (a : Point) (q r : Points) → q ≡ before (Ok a) r → answered q ≡ true → (answered r ≡ true) × (points_of q ≡ a ∷ points_of r)
unfolding before
corner_answered a q (Ok l) e h = (refl, ap points_of e)
corner_answered a q (Err k) e h = absurd (true≢false (sym h ∙ ap answered e))

pub never_refused : (q r : Points) (k : Refusal) → q ≡ before (Err k) r → answered q ≡ true → ⊥
unfolding before
never_refused q r k e h = true≢false (sym h ∙ ap answered e)
