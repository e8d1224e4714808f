-- What the midpoint of an edge says of the edge, and how many points an edge has.
use Prim.Native.Nat.{ℕ, zero, suc, ◌+◌, ◌-◌, ◌^◌, ◌<◌, ◌≤◌}
use mathlib.Core.Path.{◌≡◌, refl, ◌∙◌}
use mathlib.Core.List.{[], ◌∷◌}
use native.Mathlib.Omega.{arith}
use native.Mathlib.Nat.{pow-suc}
use native.Mathlib.Numerals.{sub-one}
use lib.Pow.{pow_pos}
use lib.ListN.{length, length-append}
use Rattle.std.specs.Prelude.{Option, Some, None, Result, Ok, Err}
use Rattle.refusals.specs.declared.Refusal.{Refusal}
use Rattle.kinds.specs.declared.Projection.{Projection}
use Rattle.ring.specs.declared.edge.Point.{Point}
use Rattle.ring.specs.Edge.{Points, points_of, midpoint, join, split, edge}

-- ---- the points at which it is cut

module _ (p : Projection) (left : ℕ) (a b : Point) where
  pub edge_none : left ≡ 0 → edge p left a b ≡ Ok []
  unfolding edge
  edge_none e = rw e refl

edge_more : (p : Projection) (left : ℕ) (a b : Point) → (left ≡ 0 → ⊥) → edge p left a b ≡ split (λ m. edge p (left - 1) a m) (λ m. edge p (left - 1) m b) (midpoint p a b)
unfolding edge
edge_more p zero a b h = absurd (h refl)
edge_more p (suc left) a b h = rw (sub-one (suc left)) refl

module _ (p : Projection) (left : ℕ) (a b : Point) (r : Result (Option Point) Refusal) (h : left ≡ 0 → ⊥) (e : r ≡ midpoint p a b) where
  pub edge_refused : (k : Refusal) → r ≡ Err k → edge p left a b ≡ Err k
  unfolding split
  edge_refused k q = edge_more p left a b h ∙ rw (← e, q) refl

  pub edge_uncut : r ≡ Ok None → edge p left a b ≡ Ok []
  unfolding split
  edge_uncut q = edge_more p left a b h ∙ rw (← e, q) refl

  pub edge_cut : (m : Point) → r ≡ Ok (Some m) → edge p left a b ≡ join (edge p (left - 1) a m) m (edge p (left - 1) m b)
  unfolding split
  edge_cut m q = edge_more p left a b h ∙ rw (← e, q) refl

-- ---- how many points

split_few : (n : ℕ) (f g : Point → Points) (r : Result (Option Point) Refusal) → ((m : Point) → length (points_of (f m)) < n) → ((m : Point) → length (points_of (g m)) < n) → 0 < n
    → length (points_of (split f g r)) < n + n
unfolding split join
split_few n f g (Err k) hf hg h = omega arith
split_few n f g (Ok None) hf hg h = omega arith
split_few n f g (Ok (Some m)) hf hg h = go (f m) (g m) (hf m) (hg m)
  where
    go : (p q : Points) → length (points_of p) < n → length (points_of q) < n → length (points_of (join p m q)) < n + n
    go (Err k) q hp hq = omega arith
    go (Ok l) (Err k) hp hq = omega arith
    go (Ok l) (Ok r) hp hq = omega (arith, length-append l (m ∷ r))

-- an edge with so many cuts left has fewer points than 2 to that power
pub edge_few : (p : Projection) (left : ℕ) (a b : Point) → length (points_of (edge p left a b)) < 2 ^ left
unfolding edge
edge_few p zero a b = omega arith
edge_few p (suc left) a b =
    rw pow-suc (omega (arith, split_few (2 ^ left) (λ m. edge p left a m) (λ m. edge p left m b) (midpoint p a b) (λ m. edge_few p left a m) (λ m. edge_few p left m b) (pow_pos left)))

pub pow_more : (d : ℕ) → (d ≡ 0 → ⊥) → 2 ^ d ≡ 2 ^ (d - 1) + 2 ^ (d - 1)
pow_more zero h = absurd (h refl)
pow_more (suc d) h = rw (sub-one (suc d), pow-suc) (omega arith)

pub at_least_one : (d : ℕ) → (d ≡ 0 → ⊥) → 1 ≤ d
at_least_one zero h = absurd (h refl)
at_least_one (suc d) h = omega arith
