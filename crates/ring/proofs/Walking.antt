-- Round the ring, corner by corner: what is still to come, with what is done, is the whole.
use Prim.Native.Nat.{ℕ, ◌+◌, ◌*◌, ◌<◌, ◌≤◌}
use denote.Ref.{Bor}
use mathlib.Core.Path.{◌≡◌, refl, sym, ap, ◌∙◌}
use mathlib.Core.Bool.{true}
use mathlib.Core.List.{List, ◌∷◌}
use native.Mathlib.Omega.{arith}
use lib.ListN.{length, drop, length-drop, set}
use lib.Ieee.{Float}
use Rattle.std.proofs.iter.Yields.{fronts}
use Rattle.std.specs.Prelude.{Option, Some, None, Result, Ok, Err}
use Rattle.std.specs.Iterator.Adapters.{zip_first, zip_second}
use Rattle.std.specs.Slice.Iter.{iter_rest}
use Rattle.std.proofs.lemmas.Iterator.{zips}
use Rattle.std.proofs.lemmas.Slice.Zip.{Zip-more}
use Rattle.refusals.specs.declared.Refusal.{Refusal}
use Rattle.kinds.specs.declared.Projection.{Projection}
use Rattle.ring.specs.declared.edge.Point.{Point}
use Rattle.ring.specs.declared.tally.Tally.{Tally}
use Rattle.ring.specs.Edge.{Points, answered, points_of, place, join, edge, easting_of, northing_of}
use Rattle.ring.specs.Ring.{DEPTH, before, corners, around}
use Rattle.ring.specs.Tally.{started, counted, walked, rest, Laid}
use Rattle.ring.proofs.Edges.{edge_few}
use Rattle.ring.proofs.Counting.{counted_points, done_points, stops, goes_on}
use Rattle.ring.proofs.Laying.{laid_join, laid_stopped}
use Rattle.ring.proofs.InRingOrder.{Pairs, ahead, corners_end, corners_next, corner_answered, never_refused}

-- what follows the corner a, where such pairs are still to come
abbrev pub onward : Projection → Point → Pairs → Point → Points
onward p first s a = around p first a (points_of (ahead p s))

-- whatever completes what is ahead completes the whole
abbrev Completes : (Point → Float) → List Float → ℕ → Points → List Float → Points → Type 0
Completes part now at ahead old whole = (new : List Float) → Laid part now at ahead new → Laid part old 1 whole new

pub record Walking (p : Projection) (s : Pairs) (first : Point) (whole : Points) (es₀ ns₀ es ns : List Float) (a : Point) (t : Tally) : Type 0 where
  pub few : t.points + 1024 * length (iter_rest (zip_first s)) ≤ 4194304
  pub sound : answered (ahead p s) ≡ true
  pub same : walked (started first) whole ≡ walked t (onward p first s a)
  pub easts : Completes easting_of es t.points (onward p first s a) es₀ whole
  pub norths : Completes northing_of ns t.points (onward p first s a) ns₀ whole

pub starts : (p : Projection) (lon lat : List Float) (s : Pairs) (first : Point) (es ns : List Float) (t : Tally) → iter_rest (zip_first s) ≡ drop 1 lon → iter_rest (zip_second s) ≡ drop 1 lat
    → length lon ≤ 4096 → answered (corners p (drop 1 lon) (drop 1 lat)) ≡ true → t ≡ started first → Walking p s first (rest p first lon lat) es ns es ns first t
unfolding started
starts p lon lat s first es ns t k l m e f =
    record {
      few = rw (f, k) (omega (arith, length-drop 1 lon));
      sound = rw (k, l) e;
      same = rw (f, k, l) refl;
      easts = rw (f, k, l) (λ new laid. laid);
      norths = rw (f, k, l) (λ new laid. laid);
    }

module _ (p : Projection) (s u : Pairs) (first : Point) (whole : Points) (es₀ ns₀ es ns : List Float) (a : Point) (t : Tally) (w : Walking p s first whole es₀ ns₀ es ns a t)
    (r : Option (Bor Float × Bor Float)) (h : zips fronts fronts s r u) where
  -- ---- at the lists' end

  module _ (e : r ≡ None) where
    last_edge : onward p first s a ≡ edge p DEPTH a first
    unfolding around
    last_edge = rw (corners_end p s u r h e) refl

    pub ends : (c : Result Tally Refusal) → c ≡ walked t (edge p DEPTH a first) → c ≡ walked (started first) whole
    ends c f = f ∙ sym (w.same ∙ ap (walked t) last_edge)

    pub ends_easts : (new : List Float) → Laid easting_of es t.points (edge p DEPTH a first) new → Laid easting_of es₀ 1 whole new
    ends_easts new laid = w.easts new (rw last_edge laid)

    pub ends_norths : (new : List Float) → Laid northing_of ns t.points (edge p DEPTH a first) new → Laid northing_of ns₀ 1 whole new
    ends_norths new laid = w.norths new (rw last_edge laid)

  -- ---- at a corner more

  module _ (q : Bor Float × Bor Float) (e : r ≡ Some q) (d : Result Point Refusal) (f : d ≡ place p q.0.now q.1.now) where
    next : (c : Result Point Refusal) → d ≡ c → ahead p s ≡ before c (ahead p u)
    next c g = corners_next p s u r h q e d c f g

    pub none_refused : (k : Refusal) → d ≡ Err k → ⊥
    none_refused k g = never_refused _ _ k (next (Err k) g) w.sound

    module _ (b : Point) (g : d ≡ Ok b) where
      corner : (answered (ahead p u) ≡ true) × (points_of (ahead p s) ≡ b ∷ points_of (ahead p u))
      corner = corner_answered b _ _ (next (Ok b) g) w.sound

      next_edge : onward p first s a ≡ join (edge p DEPTH a b) b (onward p first u b)
      unfolding around
      next_edge = rw corner.1 refl

      one_less : length (iter_rest (zip_first s)) ≡ length (iter_rest (zip_first u)) + 1
      one_less = ap length (Zip-more s u r q e h).0 ∙ omega arith

      module _ (k : Refusal) (i : walked t (edge p DEPTH a b) ≡ Err k) where
        pub stops_there : Err k ≡ walked (started first) whole
        stops_there = stops t _ b _ k i ∙ sym (w.same ∙ ap (walked t) next_edge)

        pub stops_easts : (new : List Float) → Laid easting_of es₀ 1 whole new
        stops_easts new = w.easts new (rw next_edge (laid_stopped easting_of es new t.points t _ b _ k i))

        pub stops_norths : (new : List Float) → Laid northing_of ns₀ 1 whole new
        stops_norths new = w.norths new (rw next_edge (laid_stopped northing_of ns new t.points t _ b _ k i))

      pub few_so_far : (v : Tally) → walked t (edge p DEPTH a b) ≡ Ok v → v.points < 16777216
      few_so_far v i = omega (arith, w.few, one_less, edge_few p DEPTH a b, done_points t v (edge p DEPTH a b) i)

      -- with the edge cut and the corner counted
      module _ (v z : Tally) (es₁ es₂ ns₁ ns₂ : List Float) (i : walked t (edge p DEPTH a b) ≡ Ok v) (j : z ≡ counted v b) where
        pub goes_round : Laid easting_of es t.points (edge p DEPTH a b) es₁ → es₂ ≡ set es₁ v.points b.easting
            → Laid northing_of ns t.points (edge p DEPTH a b) ns₁ → ns₂ ≡ set ns₁ v.points b.northing
            → Walking p u first whole es₀ ns₀ es₂ ns₂ b z
        goes_round l_e s_e l_n s_n =
            let many = ap (λ (y : Tally). y.points) j ∙ counted_points v b in
            record {
              few = omega (arith, w.few, one_less, many, edge_few p DEPTH a b, done_points t v (edge p DEPTH a b) i);
              sound = corner.0;
              same = w.same ∙ (ap (walked t) next_edge ∙ sym (goes_on t v z _ (edge p DEPTH a b) b _ i j refl));
              easts = λ new laid. w.easts new (rw next_edge (laid_join easting_of t v z es es₁ es₂ new (edge p DEPTH a b) b _ l_e i s_e j laid));
              norths = λ new laid. w.norths new (rw next_edge (laid_join northing_of t v z ns ns₁ ns₂ new (edge p DEPTH a b) b _ l_n i s_n j laid));
            }
