-- Points stored one after another.
use Prim.Native.Nat.{ℕ, suc, ◌+◌}
use mathlib.Core.Path.{◌≡◌, refl, sym, ap, ◌∙◌}
use mathlib.Core.Bool.{true≢false}
use mathlib.Core.List.{List, [], ◌∷◌, ◌++◌, map, map-append}
use native.Mathlib.Omega.{arith}
use native.Mathlib.Nat.{add-zero}
use native.Mathlib.Numerals.{add-one}
use lib.ListN.{length, length-map, set}
use lib.Seq.{sets}
use lib.Ieee.{Float}
use Rattle.std.specs.Prelude.{Ok, Err}
use Rattle.refusals.specs.declared.Refusal.{Refusal}
use Rattle.ring.specs.declared.edge.Point.{Point}
use Rattle.ring.specs.Edge.{Points, answered, join}
use Rattle.ring.specs.Tally.{counted, walked, Laid}
use Rattle.ring.specs.declared.tally.Tally.{Tally}
use Rattle.ring.proofs.Counting.{counted_points, done_points, stopped_refused}

sets_append : (l : List Float) (i : ℕ) (u v : List Float) → sets l i (u ++ v) ≡ sets (sets l i u) (i + length u) v
sets_append l i [] v = rw add-zero refl
sets_append l i (x ∷ u) v = sets_append (set l i x) (suc i) u v ∙ ap (λ (k : ℕ). sets (sets (set l i x) (suc i) u) k v) (omega arith)

module _ (part : Point → Float) where
  pub laid_none : (old : List Float) (at : ℕ) (q : Points) → q ≡ Ok [] → Laid part old at q old
  laid_none old at q e h = rw e refl

  pub laid_never : (old new : List Float) (at : ℕ) (q : Points) (k : Refusal) → q ≡ Err k → Laid part old at q new
  laid_never old new at q k e h = absurd (true≢false (sym h ∙ ap answered e))

  -- where the first part stopped, the whole is refused
  pub laid_stopped : (old new : List Float) (at : ℕ) (t : Tally) (q : Points) (m : Point) (r : Points) (k : Refusal) → walked t q ≡ Err k → Laid part old at (join q m r) new
  unfolding join walked
  laid_stopped old new at t (Err j) m r k e h = absurd (true≢false (sym h))
  laid_stopped old new at t (Ok l) m (Err j) k e h = absurd (true≢false (sym h))
  laid_stopped old new at t (Ok l) m (Ok r) k e h = absurd (stopped_refused t (Ok l) k e refl)

  -- the first part, the point between, and the second part
  pub laid_join : (t u v : Tally) (old l l₁ l₂ : List Float) (q : Points) (m : Point) (r : Points)
      → Laid part old t.points q l → walked t q ≡ Ok u → l₁ ≡ set l u.points (part m) → v ≡ counted u m → Laid part l₁ v.points r l₂
      → Laid part old t.points (join q m r) l₂
  unfolding join
  laid_join t u v old l l₁ l₂ (Err k) m r f e g i k₁ h = absurd (true≢false (sym h))
  laid_join t u v old l l₁ l₂ (Ok ps) m (Err k) f e g i k₁ h = absurd (true≢false (sym h))
  laid_join t u v old l l₁ l₂ (Ok ps) m (Ok rs) f e g i k₁ h =
      let n = done_points t u (Ok ps) e in
      k₁ refl ∙ rw (i, counted_points u m, g, f refl, n, add-one) (sym (rw map-append (sets_append old t.points (map part ps) (map part (m ∷ rs)) ∙ rw length-map refl)))
