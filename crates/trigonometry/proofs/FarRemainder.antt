-- A turn or more away from 0 the remainder by a turn is twice the remainder of the half, or that less a turn.
use Rattle.std.proofs.Common.{◌≡◌, ℕ, zero, suc, ◌+◌, ◌-◌, ◌*◌, ◌/◌, ◌%◌, ◌^◌, ◌<◌, ◌≤◌, Bool, true, false, T, refl, sym, ap, ◌∙◌, subst, arith, rules, mod-lt, pow_mono, le_trans}
use Rattle.std.proofs.lemmas.Nat.{mod-mul-add, div-add-mod'}
use native.Mathlib.Nat.{pow-succ'}
use borrow.Author.Tests.{ltb-true, ltb-false}
use mathlib.Core.Bool.{true≢false}
use lib.Ieee.{Float, nan, inf, fin, binary64, fits, neg, of_bits, rem}
use lib.Ieee.Scale.{finite, overflow}
use lib.Pow.{pow_pos}
use Rattle.float.proofs.Rounded.{rounded}
use Rattle.float.specs.Operators.{◌fmod◌, ◌≺◌, ◌⊗◌, ◌⊕◌, ◌⊖◌}
use Rattle.float.specs.Constants.{TURN, half}
use Rattle.float.specs.Sign.{negative}
use Rattle.float.specs.Units.{unit_count}
use Rattle.float.proofs.Representable.{Representable}
use Rattle.float.proofs.RoundedExact.{rounded_exact, whole_exact}
use Rattle.float.proofs.Sterbenz.{sterbenz}
use Rattle.float.proofs.Units.{units_finite, units_sign, units_count}
use Rattle.float.proofs.Finite.{Finite, finite_of}
use Rattle.float.proofs.Unique.{finite_unique}
use Rattle.float.proofs.Negation.{neg_finite}
use Rattle.float.proofs.Product.{mul_shrink}
use Rattle.float.proofs.Sum.{add_alike, sub_ge}
use Rattle.float.proofs.Remainder.{rem_finite}
use Rattle.float.proofs.Comparison.{lt_units}
use Rattle.trigonometry.proofs.OwnRemainder.{stays, turn_is}

-- ---- whole numbers

-- twice a number, by the number's remainder: twice that, or a b less
module _ (h b : ℕ) (pos : 0 < b) where
  parts : h / b * b + h % b ≡ h
  parts = div-add-mod' h b

  twice_below : h % b + h % b < b → 2 * h % b ≡ h % b + h % b
  twice_below l =
      let e : 2 * h ≡ 2 * (h / b) * b + (h % b + h % b) = omega (arith, parts) in
      ap (λ n. n % b) e ∙ mod-mul-add (2 * (h / b)) b (h % b + h % b) l

  twice_above : b ≤ h % b + h % b → 2 * h % b ≡ h % b + h % b - b
  twice_above l =
      let under : h % b < b = mod-lt h pos in
      let e : 2 * h ≡ (2 * (h / b) + 1) * b + (h % b + h % b - b) = omega (arith, parts) in
      ap (λ n. n % b) e ∙ mod-mul-add (2 * (h / b) + 1) b (h % b + h % b - b) (omega arith)

-- a number of 53 digits that is not below 2 ^ 53 is even, and its half has 53 digits
record Half (a : ℕ) : Type 0 where
  pub h : ℕ
  pub twice : a ≡ 2 * h
  pub representable : Representable 53 h

halved : {a : ℕ} → Representable 53 a → 2 ^ 53 ≤ a → Half a
halved {a} r l = go r.exponent r.exact
  where
    go : (e : ℕ) → a ≡ r.significand * 2 ^ e → Half a
    go zero exact = absurd (omega (arith, exact, r.digits))
    go (suc e) exact = record {
      h = r.significand * 2 ^ e;
      twice = exact ∙ rw (pow-succ' 2 e) (omega arith);
      representable = record { significand = r.significand; exponent = e; digits = r.digits; exact = refl };
    }

doubled : {n : ℕ} → Representable 53 n → Representable 53 (n + n)
doubled {n} r = record {
  significand = r.significand;
  exponent = suc r.exponent;
  digits = r.digits;
  exact = rw (pow-succ' 2 r.exponent) (omega (arith, r.exact));
}

-- ---- a turn and one half, in units
abbrev turn : ℕ
turn = unit_count binary64 TURN

half_is : Finite binary64 half false (2 ^ 1073)
unfolding of_bits negative fits unit_count
half_is = finite_of binary64 half tt tt

turn_large : 2 ^ 53 ≤ turn
unfolding of_bits unit_count
turn_large = search rules

turn_small : turn + turn < overflow binary64
unfolding of_bits unit_count
turn_small = search rules

holds : {b : Bool} → T b → b ≡ true
holds {b = true} t = refl
holds {b = false} t = absurd t

-- a finite float, by its sign
signed : (x : Float) {s : Bool} → fits binary64 x ≡ true → finite x ≡ true → negative x ≡ s → Finite binary64 x s (unit_count binary64 x)
signed x held bounded sign = rw sign at (finite_of binary64 x (subst T (sym held) tt) (subst T (sym bounded) tt))

-- ---- the two steps
module _ (y : Float) (held : fits binary64 y ≡ true) (bounded : finite y ≡ true) (plus : negative y ≡ false) where
  abbrev a : ℕ
  a = unit_count binary64 y

  abbrev p : Finite binary64 y false a
  p = signed y held bounded plus

  -- whether y is below a turn is asked of the units
  not_near : y ≺ TURN ≡ false → turn ≤ a
  not_near far = ltb-false a turn (sym (lt_units p.units turn_is.units) ∙ far)

  pub near : y ≺ TURN ≡ true → y fmod TURN ≡ y
  near below = stays turn_is p (ltb-true a turn (sym (lt_units p.units turn_is.units) ∙ below))

  of_half : (m : Half a) → Finite binary64 (y ⊗ half) false m.h
  of_half m =
      let exact : rounded 53 (a * 2 ^ 1073) (2 ^ 1074) ≡ m.h =
      rw (m.twice) (rw (scaled m.h) (rounded_exact (pow_pos 1074) m.representable)) in
      rw exact at (mul_shrink p half_is (pow_mono {i = 1073} {j = 1074} (omega arith)))
    where
      scaled : (h : ℕ) → 2 * h * 2 ^ 1073 ≡ h * 2 ^ 1074
      scaled h = omega arith

  -- where y is a turn or more, half of it is such a number too, and has fewer units
  module _ (far : y ≺ TURN ≡ false) where
    abbrev m : Half a
    m = halved p.representable (le_trans turn_large (not_near far))

    pub half_bounded : finite (y ⊗ half) ≡ true
    half_bounded = holds (units_finite (of_half m).units)

    pub half_plus : negative (y ⊗ half) ≡ false
    half_plus = units_sign (of_half m).units

    pub half_fewer : unit_count binary64 (y ⊗ half) < a
    half_fewer = rw (units_count (of_half m).units) (omega (arith, m.twice, turn_large, not_near far))

    -- and its remainder r gives that of y
    module _ {r : Float} (is : r ≡ (y ⊗ half) fmod TURN) where
      abbrev n : ℕ
      n = m.h % turn

      pos : 0 < turn
      pos = omega (arith, turn_large)

      of_y : Finite binary64 (y fmod TURN) false (2 * m.h % turn)
      of_y = rw m.twice at (rem_finite p turn_is pos)

      r_is : Finite binary64 r false n
      r_is = subst (λ z. Finite binary64 z false n) (sym is) (rem_finite (of_half m) turn_is pos)

      twice_is : Finite binary64 (r ⊕ r) false (n + n)
      twice_is =
          let exact = whole_exact (doubled r_is.representable) in
          let under : n < turn = mod-lt m.h pos in
          rw exact at (add_alike r_is r_is (rw exact (omega (arith, under, turn_small))))

      pub below_turn : (r ⊕ r) ≺ TURN ≡ true → (r ⊕ r) ≡ y fmod TURN
      below_turn l =
          let fewer = ltb-true (n + n) turn (sym (lt_units twice_is.units turn_is.units) ∙ l) in
          finite_unique twice_is (rw (twice_below m.h turn pos fewer) at of_y)

      pub above_turn : (r ⊕ r) ≺ TURN ≡ false → (r ⊕ r) ⊖ TURN ≡ y fmod TURN
      above_turn l =
          let least = ltb-false (n + n) turn (sym (lt_units twice_is.units turn_is.units) ∙ l) in
          let under : n < turn = mod-lt m.h pos in
          let exact = whole_exact (sterbenz twice_is.representable turn_is.representable least (omega arith)) in
          finite_unique (rw exact at (sub_ge twice_is turn_is least)) (rw (twice_above m.h turn pos least) at of_y)

-- ---- both signs, and what is no number
module _ (x : Float) (held : fits binary64 x ≡ true) (bounded : finite x ≡ true) (minus : negative x ≡ true) where
  abbrev q : Finite binary64 x true (unit_count binary64 x)
  q = signed x held bounded minus

  pub turned_bounded : finite (neg x) ≡ true
  turned_bounded = holds (units_finite (neg_finite q).units)

  pub turned_plus : negative (neg x) ≡ false
  turned_plus = units_sign (neg_finite q).units

  pub turned : {r : Float} → r ≡ neg x fmod TURN → neg r ≡ x fmod TURN
  turned e =
      let pos : 0 < turn = omega (arith, turn_large) in
      finite_unique (subst (λ z. Finite binary64 (neg z) true (unit_count binary64 x % turn)) (sym e) (neg_finite (rem_finite (neg_finite q) turn_is pos))) (rem_finite q turn_is pos)

pub no_number : (x : Float) → finite x ≡ false → nan ≡ x fmod TURN
unfolding rem of_bits
no_number nan e = refl
no_number (inf s) e = refl
no_number (fin s m e) h = absurd (true≢false h)
