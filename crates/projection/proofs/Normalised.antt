-- What normalising gives lies between -pi and pi, and a second use changes nothing.
use mathlib.Core.Path.{◌≡◌, sym, ◌∙◌}
use mathlib.Core.Logic.{inl, inr}
use mathlib.Core.Bool.{Bool, true, false, cond, true≢false}
use Prim.Native.Nat.{ℕ, ◌+◌, ◌-◌, ◌*◌, ◌%◌, ◌≤◌, ◌<◌}
use native.Mathlib.Nat.{le_of_eq, le_of_lt, lt_of_not-le, not-le_of_lt, sub-le, eq-or-lt_of_le, mod-eq_of_lt, mod_self, two-mul}
use native.Mathlib.Decide.{dec_le}
use native.Mathlib.Omega.{arith}
use lib.Dec.{T}
use lib.Ieee.{Float, Format, prec, neg, add, le}
use Rattle.float.proofs.Representable.{Representable}
use Rattle.float.proofs.Sterbenz.{sterbenz}
use Rattle.float.proofs.Rounded.{rounded_representable}
use Rattle.float.proofs.RoundedExact.{whole_exact}
use Rattle.float.proofs.Monotone.{whole_le, whole_ge}
use Rattle.float.proofs.Units.{prec_pos}
use Rattle.float.proofs.Finite.{Finite}
use Rattle.float.proofs.Negation.{neg_finite}
use Rattle.float.proofs.SizeBound.{le_positive, negative_le}
use Rattle.float.proofs.Unique.{finite_unique}
use Rattle.projection.proofs.Normalising.{Lon, east, mid, west, Wrap, stay, turned, none, Shift, lower, upper, Final, kept, swap}
use Rattle.projection.proofs.Normalising.{normalised, euclid, Circle, phase1, phase2, phase3, phase4}

-- ---- all steps
pub record Run (f : Format) (P : ℕ) (s : Bool) (M : ℕ) (r : Float) : Type 0 where
  pub σ : Bool
  pub A : ℕ
  pub z : ℕ
  pub ν : Bool
  pub N : ℕ
  pub ρ : Bool
  pub R : ℕ
  pub lon : Lon (prec f) P s M σ A
  pub wrap : Wrap (prec f) P σ A z
  pub z_representable : Representable (prec f) z
  pub z_le : z ≤ 2 * P
  pub shift : Shift (prec f) P z ν N
  pub final : Final P s M ν N ρ R
  pub result : Finite f r ρ R

-- ---- the values that normalising gives
pub data Good (p P : ℕ) (ρ : Bool) (R : ℕ) : Type 0 where
  minus : ρ ≡ true → 0 < R → R ≤ P → Representable p (P - R) → Good p P ρ R
  plus : ρ ≡ false → R ≤ P → Representable p (R + P) → Good p P ρ R

pub good_le : {p P : ℕ} {ρ : Bool} {R : ℕ} → Good p P ρ R → R ≤ P
good_le (minus e a b c) = b
good_le (plus e b c) = b

-- none of them is -0
pub good_zero : {p P : ℕ} {ρ : Bool} {R : ℕ} → Good p P ρ R → ρ ≡ true → R ≡ 0 → ⊥
good_zero (minus e a b c) h z = omega arith
good_zero (plus e b c) h z = true≢false (sym h ∙ e)

module _ {f : Format} {pi turn nought : Float} {P H : ℕ} (K : Circle f pi turn nought P H) where
  pub run : {s : Bool} {M : ℕ} {x : Float} → Finite f x s M → Run f P s M (normalised f pi turn nought x)
  run {s} {M} {x} h =
      let p1 = phase1 K h in
      let p2 = phase2 K p1.2 in
      let c = euclid f turn nought (add f x pi) in
      let p3 = phase3 K {c = c} p2.1 in
      let p4 = phase4 K h p3.2 in
      record {
        σ = p1.0;
        A = p1.1;
        z = p2.0;
        ν = p3.0;
        N = p3.1;
        ρ = p4.0;
        R = p4.1;
        lon = p1.3;
        wrap = p2.2;
        z_representable = p2.3;
        z_le = p2.4;
        shift = p3.3;
        final = p4.3;
        result = p4.2;
      }

  good_shift : {z : ℕ} {ν : Bool} {N : ℕ} → Representable (prec f) z → z ≤ 2 * P → Shift (prec f) P z ν N → Good (prec f) P ν N
  good_shift {z} {ν} {N} r l (lower e g n) = elim (dec_le P (2 * z)) [
    | yes h ↦
        let n' : N ≡ P - z = n ∙ whole_exact (sterbenz K.pi_is.representable r (le_of_lt g) h) in
        let back : z ≡ P - N = omega arith in
        minus e (omega arith) (omega arith) (rw back at r)
    | no h ↦
        let half = K.half in
        let above = K.pi_pos in
        let H_le_sub : H ≤ P - z = omega (arith, lt_of_not-le h) in
        let N_le : N ≤ P = rw n (whole_le (prec_pos f) K.pi_is.representable (sub-le P z)) in
        let H_le : H ≤ N = rw n (whole_ge (prec_pos f) K.half_representable H_le_sub) in
        minus e (omega arith) N_le
        (sterbenz K.pi_is.representable (rw n (rounded_representable (P - z) 1 (prec_pos f))) N_le (omega arith))
  ]
  good_shift {z} {ν} {N} r l (upper e g n) =
      let n' : N ≡ z - P = n ∙ whole_exact (sterbenz r K.pi_is.representable g l) in
      let back : z ≡ N + P = omega arith in
      plus e (omega arith) (rw back at r)

  good_final : {s : Bool} {M : ℕ} {ν : Bool} {N : ℕ} {ρ : Bool} {R : ℕ} → Good (prec f) P ν N → Final P s M ν N ρ R → Good (prec f) P ρ R
  good_final g (kept a b c) = rw (a, b) g
  good_final g (swap a b c d e) = plus a (le_of_eq b) (rw (b, ← two-mul P) K.turn_is.representable)

  pub good : {s : Bool} {M : ℕ} {r : Float} (u : Run f P s M r) → Good (prec f) P u.ρ u.R
  good u = good_final (good_shift u.z_representable u.z_le u.shift) u.final

  pub range : {s : Bool} {M : ℕ} {r : Float} → Run f P s M r → T (le (neg pi) r) × T (le r pi)
  range u =
      let l = good_le (good u) in
      (negative_le (neg_finite K.pi_is).units u.result.units l, le_positive u.result.units K.pi_is.units l)

  -- ---- a second use
  second_sum : {s : Bool} {M : ℕ} {σ : Bool} {A : ℕ} → Good (prec f) P s M → Lon (prec f) P s M σ A
      → (σ ≡ false) × (A ≡ cond s (P - M) (M + P))
  second_sum (minus e a b c) (east d g h) = absurd (true≢false (sym e ∙ d))
  second_sum (minus e a b c) (mid d g l h) = (g, rw e (h ∙ whole_exact c))
  second_sum (minus e a b c) (west d g l h) = absurd (not-le_of_lt l b)
  second_sum (plus e b c) (east d g h) = (g, rw e (h ∙ whole_exact c))
  second_sum (plus e b c) (mid d g l h) = absurd (true≢false (sym d ∙ e))
  second_sum (plus e b c) (west d g l h) = absurd (true≢false (sym d ∙ e))

  second_wrap : {σ : Bool} {A z : ℕ} → σ ≡ false → Wrap (prec f) P σ A z → z ≡ A % (2 * P)
  second_wrap e (stay d h) = h
  second_wrap e (turned d l h) = absurd (true≢false (sym d ∙ e))
  second_wrap e (none d l h) = absurd (true≢false (sym d ∙ e))

  second_low : {z : ℕ} {ν : Bool} {N M : ℕ} → Representable (prec f) M → z < P → P - z ≡ M → Shift (prec f) P z ν N → (ν ≡ true) × (N ≡ M)
  second_low r l e (lower a b c) = (a, c ∙ rw e (whole_exact r))
  second_low r l e (upper a b c) = absurd (not-le_of_lt l b)

  second_high : {z : ℕ} {ν : Bool} {N M : ℕ} → Representable (prec f) M → P ≤ z → z - P ≡ M → Shift (prec f) P z ν N → (ν ≡ false) × (N ≡ M)
  second_high r l e (lower a b c) = absurd (not-le_of_lt b l)
  second_high r l e (upper a b c) = (a, c ∙ rw e (whole_exact r))

  again : {s : Bool} {M : ℕ} {r : Float} → Representable (prec f) M → Good (prec f) P s M → (u : Run f P s M r) → (u.ρ ≡ s) × (u.R ≡ M)
  again {s} {M} r (minus e a b c) u =
      let g = second_sum (minus e a b c) u.lon in
      let small : P - M < 2 * P = omega arith in
      let z_is : u.z ≡ P - M = second_wrap g.0 u.wrap ∙ rw (g.1, e) (mod-eq_of_lt small) in
      let w = second_low r (omega (arith, z_is)) (omega (arith, z_is)) u.shift in
      go u.final w.0 w.1
    where
      go : {ν : Bool} {N : ℕ} {ρ : Bool} {R : ℕ} → Final P s M ν N ρ R → ν ≡ true → N ≡ M → (ρ ≡ s) × (R ≡ M)
      go (kept x y z) p q = (x ∙ p ∙ sym e, y ∙ q)
      go (swap v w x y z) p q = absurd (true≢false (sym e ∙ z))
  again {s} {M} r (plus e b c) u = elim (eq-or-lt_of_le b) [
    | inr l ↦
        let small : M + P < 2 * P = omega arith in
        let z_is : u.z ≡ M + P = z_from ∙ mod-eq_of_lt small in
        let w = second_high r (omega (arith, z_is)) (omega (arith, z_is)) u.shift in
        go u.final w.0 w.1
    | inl k ↦
        let turn : M + P ≡ 2 * P = omega arith in
        let z_is : u.z ≡ 0 = z_from ∙ rw turn (mod_self (2 * P)) in
        let w = second_low r (omega (arith, z_is, K.pi_pos)) (omega (arith, z_is, k)) u.shift in
        end k u.final w.0 w.1
  ]
    where
      z_from : u.z ≡ (M + P) % (2 * P)
      z_from = let g = second_sum (plus e b c) u.lon in second_wrap g.0 u.wrap ∙ rw (g.1, e)

      go : {ν : Bool} {N : ℕ} {ρ : Bool} {R : ℕ} → Final P s M ν N ρ R → ν ≡ false → N ≡ M → (ρ ≡ s) × (R ≡ M)
      go (kept x y z) p q = (x ∙ p ∙ sym e, y ∙ q)
      go (swap v w x y z) p q = absurd (true≢false (sym x ∙ p))

      end : M ≡ P → {ν : Bool} {N : ℕ} {ρ : Bool} {R : ℕ} → Final P s M ν N ρ R → ν ≡ true → N ≡ M → (ρ ≡ s) × (R ≡ M)
      end k (kept x y z) p q = absurd (z p (q ∙ k) e (rw k K.pi_pos))
      end k (swap v w x y z) p q = (v ∙ sym e, w ∙ sym k)

  pub settled : {s : Bool} {M : ℕ} {x : Float} → Finite f x s M → Good (prec f) P s M → normalised f pi turn nought x ≡ x
  settled h g =
      let u = run h in
      let e = again h.representable g u in
      finite_unique (rw (e.0, e.1) at u.result) h

  pub idempotent : {s : Bool} {M : ℕ} {x : Float} → Finite f x s M
      → normalised f pi turn nought (normalised f pi turn nought x) ≡ normalised f pi turn nought x
  idempotent h = let u = run h in settled u.result (good u)
