-- What normalising does to a finite float, step by step: each step's result as a sign and a whole number of units.
use mathlib.Core.Path.{◌≡◌, refl, sym, ◌∙◌, subst}
use mathlib.Core.Logic.{◌⊎◌, inl, inr}
use mathlib.Core.Bool.{Bool, true, false, ◌&&◌, cond}
use Prim.Native.Nat.{ℕ, ◌+◌, ◌-◌, ◌*◌, ◌%◌, ◌≤◌, ◌<◌}
use native.Mathlib.Nat.{le_of_lt, lt_of_not-le, mod-lt, sub-le, eq-zero-or-pos}
use native.Mathlib.Decide.{dec_le}
use native.Mathlib.Omega.{arith}
use borrow.Author.Tests.{lt-ltb, le-ltb}
use lib.Dec.{T, ltb, eqb, lt→ltb, eqb→eq}
use lib.Ieee.{Float, Format, prec, neg, add, sub, rem, below, level, lt, eq}
use lib.Ieee.Fits.{eq→eqb, and_l, and_r, and_i}
use lib.Ieee.Scale.{overflow}
use Rattle.float.proofs.Representable.{Representable, representable_zero}
use Rattle.float.proofs.Rounded.{rounded_whole}
use Rattle.float.proofs.Monotone.{whole_le}
use Rattle.float.proofs.Units.{prec_pos}
use Rattle.float.proofs.Finite.{Finite}
use Rattle.float.proofs.Negation.{neg_finite}
use Rattle.float.proofs.Sum.{add_alike, add_unlike_less, add_unlike_ge, sub_less, sub_ge, sub_unlike}
use Rattle.float.proofs.Remainder.{rem_finite}
use Rattle.float.proofs.Comparison.{lt_units, eq_units}

-- ---- the definition, over any format and its constants

-- `rem_euclid`, by any turn
abbrev pub euclid : Format → Float → Float → Float → Float
euclid f turn nought a = let b = rem f a turn in cond (lt b nought) (add f b turn) b

-- the one end for the other, for a longitude above 0
abbrev pub choose : Float → Float → Float → Float → Float
choose pi nought x n = cond (eq n (neg pi) && lt nought x) pi n

abbrev pub normalised : Format → Float → Float → Float → Float → Float
normalised f pi turn nought x = choose pi nought x (sub f (euclid f turn nought (add f x pi)) pi)

-- ---- what holds of the constants: pi is P units, a turn is 2 P, half of pi is H
pub record Circle (f : Format) (pi turn nought : Float) (P H : ℕ) : Type 0 where
  pub pi_is : Finite f pi false P
  pub turn_is : Finite f turn false (2 * P)
  pub nought_is : Finite f nought false 0
  pub half : 2 * H ≡ P
  pub half_representable : Representable (prec f) H
  pub pi_pos : 0 < P
  pub room : (M : ℕ) → Representable (prec f) M → M < overflow f → rounded_whole (prec f) (M + P) < overflow f

-- ---- x + pi
pub data Lon (p P : ℕ) (s : Bool) (M : ℕ) (σ : Bool) (A : ℕ) : Type 0 where
  east : s ≡ false → σ ≡ false → A ≡ rounded_whole p (M + P) → Lon p P s M σ A
  mid : s ≡ true → σ ≡ false → M ≤ P → A ≡ rounded_whole p (P - M) → Lon p P s M σ A
  west : s ≡ true → σ ≡ true → P < M → A ≡ rounded_whole p (M - P) → Lon p P s M σ A

-- ---- the remainder that is not negative
pub data Wrap (p P : ℕ) (σ : Bool) (A z : ℕ) : Type 0 where
  stay : σ ≡ false → z ≡ A % (2 * P) → Wrap p P σ A z
  turned : σ ≡ true → 0 < A % (2 * P) → z ≡ rounded_whole p (2 * P - A % (2 * P)) → Wrap p P σ A z
  none : σ ≡ true → A % (2 * P) ≡ 0 → z ≡ 0 → Wrap p P σ A z

-- ---- that less pi
pub data Shift (p P : ℕ) (z : ℕ) (ν : Bool) (N : ℕ) : Type 0 where
  lower : ν ≡ true → z < P → N ≡ rounded_whole p (P - z) → Shift p P z ν N
  upper : ν ≡ false → P ≤ z → N ≡ rounded_whole p (z - P) → Shift p P z ν N

-- ---- and the choice between the two ends
pub data Final (P : ℕ) (s : Bool) (M : ℕ) (ν : Bool) (N : ℕ) (ρ : Bool) (R : ℕ) : Type 0 where
  kept : ρ ≡ ν → R ≡ N → (ν ≡ true → N ≡ P → s ≡ false → 0 < M → ⊥) → Final P s M ν N ρ R
  swap : ρ ≡ false → R ≡ P → ν ≡ true → N ≡ P → s ≡ false → Final P s M ν N ρ R

module _ {f : Format} {pi turn nought : Float} {P H : ℕ} (K : Circle f pi turn nought P H) where
  pub turn_pos : 0 < 2 * P
  turn_pos = omega (arith, K.pi_pos)

  pub phase1 : {s : Bool} {M : ℕ} {x : Float} → Finite f x s M → (σ : Bool) × (A : ℕ) × Finite f (add f x pi) σ A × Lon (prec f) P s M σ A
  phase1 {s} {M} {x} h = go s h
    where
      go : (s : Bool) → Finite f x s M → (σ : Bool) × (A : ℕ) × Finite f (add f x pi) σ A × Lon (prec f) P s M σ A
      go false h = (
        false,
        rounded_whole (prec f) (M + P),
        add_alike h K.pi_is (K.room M h.representable h.below_overflow),
        east refl refl refl,
      )
      go true h = elim (dec_le P M) [
        | yes k ↦ elim (dec_le M P) [
          | yes g ↦
              let e : M - P ≡ P - M = omega arith in
              (false, rounded_whole (prec f) (P - M), rw (le-ltb P M g, e) at (add_unlike_ge h K.pi_is k), mid refl refl g refl)
          | no g ↦
              let l = lt_of_not-le g in
              (true, rounded_whole (prec f) (M - P), rw (lt-ltb P M l) at (add_unlike_ge h K.pi_is k), west refl refl l refl)
        ]
        | no k ↦
            let l = lt_of_not-le k in
            (false, rounded_whole (prec f) (P - M), add_unlike_less h K.pi_is l, mid refl refl (le_of_lt l) refl)
      ]

  -- z units, or -0
  abbrev Zed : ℕ → Float → Type 0
  Zed z c = Finite f c false z ⊎ (Finite f c true 0 × (z ≡ 0))

  pub phase2 : {σ : Bool} {A : ℕ} {a : Float} → Finite f a σ A
      → (z : ℕ) × Zed z (euclid f turn nought a) × Wrap (prec f) P σ A z × Representable (prec f) z × (z ≤ 2 * P)
  phase2 {σ} {A} {a} h = go σ h
    where
      b : Float
      b = rem f a turn

      B : ℕ
      B = A % (2 * P)

      go : (σ : Bool) → Finite f a σ A
          → (z : ℕ) × Zed z (euclid f turn nought a) × Wrap (prec f) P σ A z × Representable (prec f) z × (z ≤ 2 * P)
      go false h =
          let r = rem_finite h K.turn_is turn_pos in
          let not_below : lt b nought ≡ false = lt_units r.units K.nought_is.units ∙ le-ltb B 0 (omega arith) in
          (B, inl (rw not_below r), stay refl refl, r.representable, le_of_lt (mod-lt A turn_pos))
      go true h =
          let r = rem_finite h K.turn_is turn_pos in
          let is : lt b nought ≡ ltb 0 (B + 0) = lt_units r.units K.nought_is.units in
          elim (eq-zero-or-pos B) [
            | inl e ↦
                let not_below : lt b nought ≡ false = is ∙ le-ltb 0 (B + 0) (omega arith) in
                (0, inr (rw not_below (rw e at r), refl), none refl e refl, representable_zero, le_of_lt turn_pos)
            | inr g ↦
                let is_below : lt b nought ≡ true = is ∙ lt-ltb 0 (B + 0) (omega arith) in
                let t = add_unlike_less r K.turn_is (mod-lt A turn_pos) in (
                  rounded_whole (prec f) (2 * P - B),
                  inl (rw is_below t),
                  turned refl g refl,
                  t.representable,
                  whole_le (prec_pos f) K.turn_is.representable (sub-le (2 * P) B),
                )
          ]

  pub phase3 : {z : ℕ} {c : Float} → Zed z c → (ν : Bool) × (N : ℕ) × Finite f (sub f c pi) ν N × Shift (prec f) P z ν N
  phase3 {z} (inl h) = elim (dec_le P z) [
    | yes g ↦ (false, rounded_whole (prec f) (z - P), sub_ge h K.pi_is g, upper refl g refl)
    | no g ↦ (true, rounded_whole (prec f) (P - z), sub_less h K.pi_is (lt_of_not-le g), lower refl (lt_of_not-le g) refl)
  ]
  phase3 {z} (inr (h, e)) =
      let n : 0 + P ≡ P - z = omega arith in
      let l : z < P = rw e K.pi_pos in
      let r = sub_unlike {s = false} h K.pi_is (K.room 0 representable_zero h.below_overflow) in
      (true, rounded_whole (prec f) (P - z), rw n at r, lower refl l refl)

  pub phase4 : {s : Bool} {M : ℕ} {x : Float} {ν : Bool} {N : ℕ} {n : Float} → Finite f x s M → Finite f n ν N
      → (ρ : Bool) × (R : ℕ) × Finite f (choose pi nought x n) ρ R × Final P s M ν N ρ R
  phase4 {s} {M} {x} {ν} {N} {n} h k =
      go (eq n (neg pi)) (lt nought x) (eq_units k.units (neg_finite K.pi_is).units) (lt_units K.nought_is.units h.units)
    where
      level_says : (ν : Bool) → T (level ν N true P) → (ν ≡ true) × (N ≡ P)
      level_says true t = (refl, eqb→eq N P (and_l (eqb N P) true t))
      level_says false t = absurd
          (omega (arith, K.pi_pos, eqb→eq N P (and_l (eqb N P) (eqb N 0) t), eqb→eq N 0 (and_r (eqb N P) (eqb N 0) t)))

      below_says : (s : Bool) → T (below false 0 s M) → s ≡ false
      below_says true t = absurd t
      below_says false t = refl

      go : (u v : Bool) → u ≡ level ν N true P → v ≡ below false 0 s M
          → (ρ : Bool) × (R : ℕ) × Finite f (cond (u && v) pi n) ρ R × Final P s M ν N ρ R
      go true true a b =
          let q = level_says ν (subst T a tt) in
          (false, P, K.pi_is, swap refl refl q.0 q.1 (below_says s (subst T b tt)))
      go true false a b = (ν, N, k, kept refl refl (λ w x y z. subst T (sym b) (rw y (lt→ltb 0 M z))))
      go false v a b = (ν, N, k, kept refl refl (λ w x y z. subst T (sym a) (rw w (and_i (eqb N P) true (eq→eqb x) tt))))
