-- A school that is no farther is never dearer. So along a list of the nearest schools, whose sums never fall, charges never fall.
use Rattle.std.proofs.Common.{◌≡◌, ℕ, zero, suc, ◌+◌, ◌*◌, ◌^◌, ◌<◌, ◌≤◌, Bool, true, false, ◌&&◌, ◌||◌, T, eqb, ℤ, sym, refl, ap, ◌∙◌, true≢false, zero-le, le_trans, mul-le-mul_right, zero-lt-suc, lt_of_not-le, zero-mul, arith, lt→ltb, pow_pos, lt-ltb, eqb-true, le-leb, leb-true}
use native.Mathlib.Nat.{zero-div}
use native.Mathlib.Decide.{dec_le}
use lib.Ieee.{Float, nan, inf, fin, binary64, fits, lt, le, eq, of_bits, below, level, up, down}
use lib.Ieee.Fits.{add-fits, down_pos}
use lib.Ieee.Positive.{positive, value_pos}
use Rattle.root.specs.Root.{root}
use Rattle.root.specs.Plane.{distance}
use Rattle.root.proofs.NotNegative.{root_not_negative}
use Rattle.root.proofs.Bounds.{root_finite, root_rising}
use Rattle.float.specs.Sign.{negative}
use Rattle.float.specs.Units.{unit_count}
use Rattle.float.specs.Constants.{+0}
use Rattle.float.specs.Operators.{◌⊕◌, ◌⊗◌, ◌≺◌, ◌≼◌}
use Rattle.float.proofs.Finite.{finite_of}
use Rattle.float.proofs.Comparison.{le_units}
use Rattle.float.proofs.SizeBound.{le_positive}
use Rattle.float.proofs.NeverNan.{squares_not_negative}
use Rattle.refusals.specs.Refusals.{number}
use Rattle.charge.specs.Kilometres.{reaches, kilometres}
use Rattle.charge.specs.Charge.{FARTHEST, travel_charge, charge_of}
use Rattle.charge.proofs.CountingUp.{least_passes}
use Rattle.charge.proofs.WholePart.{metre, at_most, below_zero, farthest_units}
use Rattle.charge.proofs.Charged.{reached, answered, charge_is, bill_charge}

-- ---- kilometres never fall

kilometres_rise : (d e : Float) → unit_count binary64 d ≤ unit_count binary64 e → reaches e (1000 * 1000) ≡ true → kilometres d ≤ kilometres e
unfolding kilometres reaches
kilometres_rise d e h far =
    let low = least_passes (λ k. reaches d (1000 * k)) 1000 (le-leb _ _ (le_trans h (leb-true _ _ far))) in
    let high = least_passes (λ k. reaches e (1000 * k)) 1000 far in
    elim (dec_le (kilometres d) (kilometres e)) [
      | yes l ↦ l
      | no n ↦ absurd (true≢false (sym (le-leb _ _ (le_trans h (leb-true _ _ high.passes))) ∙ low.first (kilometres e) (lt_of_not-le n)))
    ]

-- ---- zeros

no_units : (s : Bool) (e : ℤ) → unit_count binary64 (fin s zero e) ≡ 0
unfolding unit_count
no_units s e = rw (zero-mul (up e), zero-mul (2 ^ 1074)) (zero-div (down e))

-- what is at most -0 and has no sign is 0
level_zero : (a b : ℕ) → (below false a true b || level false a true b) ≡ true → a ≡ 0
level_zero a b h = go (eqb a b) (eqb a 0) refl h
  where
    go : (p q : Bool) → eqb a 0 ≡ q → (p && q) ≡ true → a ≡ 0
    go true true e h = eqb-true a 0 e
    go true false e h = absurd (true≢false (sym h))
    go false q e h = absurd (true≢false (sym h))

-- ---- roots of sums that are not below 0

-- a number of units that is at most another's
units_le : (s t : Bool) (m n : ℕ) (e d : ℤ) → T (fits binary64 (fin s m e)) → T (fits binary64 (fin t n d)) → (fin s m e ≺ +0) ≡ false → (fin t n d ≺ +0) ≡ false
    → (fin s m e ≼ fin t n d) ≡ true → unit_count binary64 (fin s m e) ≤ unit_count binary64 (fin t n d)
unfolding negative
units_le true t (suc m) n e d f g h k l = absurd (below_zero m e h)
units_le true t zero n e d f g h k l = rw (no_units true e) zero-le
units_le false true m (suc n) e d f g h k l = absurd (below_zero n d k)
units_le false true m zero e d f g h k l =
    let v = (finite_of binary64 (fin false m e) f tt).units in
    let w = (finite_of binary64 (fin true zero d) g tt).units in
    rw (level_zero (unit_count binary64 (fin false m e)) (unit_count binary64 (fin true zero d)) (sym (le_units v w) ∙ l)) zero-le
units_le false false m n e d f g h k l =
    let v = (finite_of binary64 (fin false m e) f tt).units in
    let w = (finite_of binary64 (fin false n d) g tt).units in
    at_most (unit_count binary64 (fin false m e)) (unit_count binary64 (fin false n d)) (sym (le_units v w) ∙ l)

-- the root of x is no farther than that of y
record NoFarther (x y : Float) : Type 0 where
  units : unit_count binary64 (root x) ≤ unit_count binary64 (root y)
  near : (root x ≼ FARTHEST) ≡ true

is_true : (b : Bool) → T b → b ≡ true
is_true true h = refl
is_true false h = absurd h

zero_near : (s : Bool) (e : ℤ) → (fin s zero e ≼ FARTHEST) ≡ true
unfolding le lt of_bits
zero_near s e = go s
  where
    go : (s : Bool) → (fin s zero e ≼ FARTHEST) ≡ true
    go false = rw (lt-ltb (0 * up e * 1) (1000000 * down e) (rw (zero-mul (up e)) (omega (arith, down_pos e)))) refl
    go true = rw (lt-ltb 0 (0 * up e * 1 + 1000000 * down e) (omega (arith, down_pos e))) refl

module _ (x y : Float) (f : T (fits binary64 x)) (g : T (fits binary64 y)) (near : (root y ≼ FARTHEST) ≡ true) where
  within : unit_count binary64 (root y) ≤ 1000000 * metre
  unfolding reaches
  within = leb-true _ _ (reached (root y) (root_not_negative y) near)

  from_positive : T (positive x) → T (positive y) → unit_count binary64 x ≤ unit_count binary64 y → NoFarther x y
  from_positive p q l =
      let r = root_rising x y f g p q l in
      record { units = r; near = is_true _ (le_positive (root_finite x f p).units farthest_units (le_trans r within)) }

above_zero : (m : ℕ) (e : ℤ) → T (fits binary64 (fin false (suc m) e)) → 0 < unit_count binary64 (fin false (suc m) e)
unfolding negative
above_zero m e f =
    value_pos (fin false (suc m) e) (unit_count binary64 (fin false (suc m) e)) metre (lt→ltb 0 (suc m) (zero-lt-suc m)) (pow_pos 1074)
    (finite_of binary64 (fin false (suc m) e) f tt).units.value

nearer : (x y : Float) → T (fits binary64 x) → T (fits binary64 y) → (x ≺ +0) ≡ false → (y ≺ +0) ≡ false → (x ≼ y) ≡ true → (root y ≼ FARTHEST) ≡ true → NoFarther x y
unfolding root lt le eq of_bits
nearer nan y f g h k l near = absurd (true≢false (sym l))
nearer (inf true) y f g h k l near = absurd (true≢false h)
nearer (inf false) nan f g h k l near = absurd (true≢false (sym l))
nearer (inf false) (inf true) f g h k l near = absurd (true≢false k)
nearer (inf false) (inf false) f g h k l near = absurd (true≢false (sym near))
nearer (inf false) (fin t n d) f g h k l near = absurd (true≢false (sym l))
nearer (fin s m e) nan f g h k l near = absurd (true≢false (sym l))
nearer (fin s m e) (inf true) f g h k l near = absurd (true≢false k)
nearer (fin s m e) (inf false) f g h k l near = absurd (true≢false (sym near))
nearer (fin s zero e) (fin t n d) f g h k l near = record { units = rw (no_units s e) zero-le; near = zero_near s e }
nearer (fin true (suc m) e) (fin t n d) f g h k l near = absurd (below_zero m e h)
nearer (fin false (suc m) e) (fin true (suc n) d) f g h k l near = absurd (below_zero n d k)
nearer (fin false (suc m) e) (fin t zero d) f g h k l near =
    let above = above_zero m e f in
    absurd (omega (arith, units_le false t (suc m) zero e d f g h k l, no_units t d))
nearer (fin false (suc m) e) (fin false (suc n) d) f g h k l near =
    from_positive (fin false (suc m) e) (fin false (suc n) d) f g near (lt→ltb 0 (suc m) (zero-lt-suc m)) (lt→ltb 0 (suc n) (zero-lt-suc n)) (units_le false false (suc m) (suc n) e d f g h k l)

-- ---- the charge

pub never_dearer : (dx dy ex ey : Float) (rate children : ℕ) → ((dx ⊗ dx ⊕ dy ⊗ dy) ≼ (ex ⊗ ex ⊕ ey ⊗ ey)) ≡ true → number (travel_charge ex ey rate children) ≡ 0
    → (number (travel_charge dx dy rate children) ≡ 0) × (charge_of (travel_charge dx dy rate children) ≤ charge_of (travel_charge ex ey rate children))
unfolding distance
never_dearer dx dy ex ey rate children l h =
    let g = answered ex ey rate children h in
    let x = dx ⊗ dx ⊕ dy ⊗ dy in
    let y = ex ⊗ ex ⊕ ey ⊗ ey in
    let n =
    nearer x y (add-fits binary64 (dx ⊗ dx) (dy ⊗ dy)) (add-fits binary64 (ex ⊗ ex) (ey ⊗ ey)) (squares_not_negative binary64 dx dy) (squares_not_negative binary64 ex ey) l
    g.near in
    let c = charge_is dx dy rate children (record { rate_low = g.rate_low; some = g.some; few = g.few; near = n.near }) in
    let k = kilometres_rise (root x) (root y) n.units (reached (root y) (root_not_negative y) g.near) in
    (sym (ap number c), rw (← ap charge_of c, (bill_charge ex ey rate children h).1) (mul-le-mul_right rate k))
