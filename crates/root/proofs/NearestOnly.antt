-- No finite f64 is nearer to the root of x than `root x`, and of no other f64 is that so.
use Rattle.std.proofs.Common.{◌≡◌, ℕ, ◌*◌, ◌^◌, Bool, true, false, T, ◌≢◌, ◌⊎◌, ℤ, pos, negsuc, ◌+ℤ◌, sym, refl, ap, ◌∙◌, inl, inr, true≢false, arith, ltb→lt}
use native.Mathlib.Decide.{ℕ_discrete}
use lib.IntN.{+ℤ_comm}
use lib.Signed.{lt_z}
use lib.Ieee.{Float, binary64, fits}
use lib.Ieee.Positive.{positive, positive-finite}
use lib.Ieee.Scale.{finite}
use Rattle.float.specs.Sign.{negative}
use Rattle.float.specs.Units.{unit_count, in_units}
use Rattle.float.proofs.Finite.{finite_of}
use Rattle.float.proofs.Unique.{finite_unique}
use Rattle.root.specs.Root.{root}
use Rattle.root.specs.Nearest.{RootBelowHalf, HalfBelowRoot, Nearer, to_lower, to_upper, Nearest, NoneNearer}
use Rattle.root.proofs.Nearest.{root_nearest}

not_both_below : (a b : ℤ) → T (lt_z a b) → T (lt_z b a) → ⊥
not_both_below (pos a) (pos b) h k = omega (arith, ltb→lt a b h, ltb→lt b a k)
not_both_below (pos a) (negsuc b) h k = h
not_both_below (negsuc a) (pos b) h k = k
not_both_below (negsuc a) (negsuc b) h k = omega (arith, ltb→lt b a h, ltb→lt a b k)

not_both_sides : (h : ℤ) (w : ℕ) → RootBelowHalf w h → HalfBelowRoot h w → ⊥
not_both_sides (pos h) w a b = omega arith
not_both_sides (negsuc h) w a b = a

-- of two numbers only one is nearer
not_both_nearer : {w : ℕ} {r y : ℤ} → Nearer w r y → Nearer w y r → ⊥
not_both_nearer {w} {r} {y} (to_lower a b) (to_lower c d) = not_both_below r y a.lt c.lt
not_both_nearer {w} {r} {y} (to_lower a b) (to_upper c d) = not_both_sides (r +ℤ y) w b (rw (+ℤ_comm y r) at d)
not_both_nearer {w} {r} {y} (to_upper a b) (to_lower c d) = not_both_sides (r +ℤ y) w (rw (+ℤ_comm y r) at d) b
not_both_nearer {w} {r} {y} (to_upper a b) (to_upper c d) = not_both_below y r a.lt c.lt

-- two finite f64 are equal or not: by their signs and their numbers of units
equal_or_not : {x y : Float} → T (fits binary64 x) → T (finite x) → T (fits binary64 y) → T (finite y) → (x ≡ y) ⊎ (x ≢ y)
equal_or_not {x} {y} f g h i = go (negative x) (negative y) refl refl (ℕ_discrete (unit_count binary64 x) (unit_count binary64 y))
  where
    same : negative x ≡ negative y → Dec (unit_count binary64 x ≡ unit_count binary64 y) → (x ≡ y) ⊎ (x ≢ y)
    same s (yes n) = inl (finite_unique (rw (s, n) at (finite_of binary64 x f g)) (finite_of binary64 y h i))
    same s (no n) = inr (λ e. n (ap (unit_count binary64) e))

    go : (s t : Bool) → negative x ≡ s → negative y ≡ t → Dec (unit_count binary64 x ≡ unit_count binary64 y) → (x ≡ y) ⊎ (x ≢ y)
    go true true p q d = same (p ∙ sym q) d
    go false false p q d = same (p ∙ sym q) d
    go true false p q d = inr (λ e. true≢false (sym p ∙ ap negative e ∙ q))
    go false true p q d = inr (λ e. true≢false (sym q ∙ sym (ap negative e) ∙ p))

module _ (x : Float) (f : T (fits binary64 x)) (p : T (positive x)) where
  near : Nearest x (root x)
  near = root_nearest x f p

  root_finite : T (finite (root x))
  root_finite = positive-finite (root x) near.above_zero

  pub root_none_nearer : NoneNearer x (root x)
  root_none_nearer = record { held = near.held; finite_y = root_finite; none = none }
    where
      none : (z : Float) → T (fits binary64 z) → T (finite z) → Nearer (unit_count binary64 x * 2 ^ 1074) (in_units z) (in_units (root x)) → ⊥
      none z g h n = elim (equal_or_not g h near.held root_finite) [
        | inl e ↦ let m = rw e at n in not_both_nearer m m
        | inr d ↦ not_both_nearer (near.nearer z g h d) n
      ]

  pub root_only : (y : Float) → NoneNearer x y → y ≡ root x
  root_only y v = elim (equal_or_not v.held v.finite_y near.held root_finite) [
    | inl e ↦ e
    | inr d ↦ absurd (v.none (root x) near.held root_finite (near.nearer y v.held v.finite_y d))
  ]
