-- What points come to, counted one by one.
use Prim.Native.Nat.{◌+◌}
use mathlib.Core.Path.{◌≡◌, refl, sym, ap, ◌∙◌}
use mathlib.Core.Bool.{true, true≢false}
use mathlib.Core.List.{List, [], ◌∷◌, ◌++◌}
use native.Mathlib.Omega.{arith}
use native.Mathlib.Nat.{add-zero}
use lib.ListN.{length}
use Rattle.std.specs.Prelude.{Result, Ok, Err}
use Rattle.refusals.specs.declared.Refusal.{Refusal}
use Rattle.refusals.proofs.Refused.{refused}
use Rattle.ring.specs.declared.edge.Point.{Point}
use Rattle.ring.specs.declared.tally.Tally.{Tally}
use Rattle.ring.specs.Edge.{Points, answered, points_of, join}
use Rattle.ring.specs.Tally.{counted, counted_all, walked}

counted_append : (t : Tally) (u v : List Point) → counted_all t (u ++ v) ≡ counted_all (counted_all t u) v
unfolding counted_all
counted_append t [] v = refl
counted_append t (m ∷ u) v = counted_append (counted t m) u v

pub counted_points : (t : Tally) (m : Point) → (counted t m).points ≡ t.points + 1
unfolding counted
counted_points t m = refl

pub all_points : (t : Tally) (l : List Point) → (counted_all t l).points ≡ t.points + length l
unfolding counted_all counted
all_points t [] = sym (add-zero _)
all_points t (m ∷ l) = all_points (counted t m) l ∙ omega arith

module _ (t : Tally) (q : Points) where
  pub walked_refused : (k : Refusal) → q ≡ Err k → Err k ≡ walked t q
  unfolding walked
  walked_refused k e = rw e refl

  pub walked_none : q ≡ Ok [] → Ok t ≡ walked t q
  unfolding walked counted_all
  walked_none e = rw e refl

pub stopped_refused : (t : Tally) (q : Points) (k : Refusal) → walked t q ≡ Err k → answered q ≡ true → ⊥
unfolding walked
stopped_refused t (Ok l) k e h = refused (sym e)
stopped_refused t (Err j) k e h = true≢false (sym h)

pub done_points : (t u : Tally) (q : Points) → walked t q ≡ Ok u → u.points ≡ t.points + length (points_of q)
unfolding walked
done_points t u (Ok l) e =
    let h : counted_all t l ≡ u = cc in
    rw (← h) (all_points t l)
done_points t u (Err k) e = refused e

-- the first part's refusal is the whole's
pub stops : (t : Tally) (q : Points) (m : Point) (r : Points) (k : Refusal) → walked t q ≡ Err k → Err k ≡ walked t (join q m r)
unfolding walked join
stops t (Ok l) m r k e = absurd (refused (sym e))
stops t (Err j) m r k e = sym e

-- after the first part come the point between and the second
pub goes_on : (t u v : Tally) (w : Result Tally Refusal) (q : Points) (m : Point) (r : Points) → walked t q ≡ Ok u → v ≡ counted u m → w ≡ walked v r → w ≡ walked t (join q m r)
unfolding walked join counted_all
goes_on t u v w (Err j) m r e f g = refused e
goes_on t u v w (Ok l) m (Err j) e f g = g
goes_on t u v w (Ok l) m (Ok r) e f g =
    let h : counted_all t l ≡ u = cc in
    g ∙ ap Ok (sym (counted_append t l (m ∷ r) ∙ rw (h, f) refl))
