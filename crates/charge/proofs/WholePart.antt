-- A distance that is charged lies between its whole metres and one metre more.
use Rattle.std.proofs.Common.{◌≡◌, ℕ, zero, suc, ◌+◌, ◌-◌, ◌*◌, ◌/◌, ◌^◌, ◌<◌, ◌≤◌, min, Bool, true, false, ◌&&◌, ◌||◌, T, eqb, ltb, ℤ, pos, sym, refl, ◌∙◌, true≢false, zero-le, le_trans, lt_of_le_of_lt, mul-le-mul_right, zero-lt-suc, mul_comm, lt_of_mul-lt-mul_right, mul-lt-mul_of_pos_right, mul-pos, one-mul, zero-mul, mul-one, mul_right_comm, div-mul-le_self, le_of_mul-le-mul_right, add-one, arith, lt→ltb, pow_pos, ltb-true, le-ltb, lt-ltb, eqb-true}
use native.Mathlib.Nat.{zero-div, lt-mul-div-succ}
use lib.Ieee.{Float, nan, inf, fin, binary64, of_bits, of_int, to_unsigned, fits, lt, le, eq, below, level, up, down}
use lib.Ieee.Back.{round_whole}
use lib.Ieee.Fits.{up_pos, down_pos}
use Rattle.float.specs.Constants.{+0}
use Rattle.float.specs.Operators.{◌≺◌, ◌≼◌}
use Rattle.float.specs.Sign.{negative}
use Rattle.float.specs.Units.{unit_count}
use Rattle.float.proofs.Values.{same_value}
use Rattle.float.proofs.Units.{HasUnits}
use Rattle.float.proofs.Finite.{finite_of}
use Rattle.float.proofs.Comparison.{lt_units, le_units}
use Rattle.charge.specs.Charge.{FARTHEST}

-- units in a metre
abbrev pub metre : ℕ
metre = 2 ^ 1074

-- a whole number of metres that an f64 holds
whole_units : (n : ℕ) → n ≤ 2 ^ 53 → HasUnits binary64 (of_int binary64 (pos n)) false (n * metre)
unfolding of_int
whole_units n h = record { value = same_value (of_int binary64 (pos n)) false n 1 (n * metre) metre (omega arith) (sym (mul-one (n * metre))) (round_whole binary64 false n h) }

pub farthest_units : HasUnits binary64 FARTHEST false (1000000 * metre)
unfolding of_bits
farthest_units = record { value = (refl, refl) }

-- the whole part of a fraction x / v, which is a / u
module _ (x v a u : ℕ) (v_pos : 0 < v) (u_pos : 0 < u) (e : x * u ≡ a * v) where
  part_low : x / v * u ≤ a
  part_low = le_of_mul-le-mul_right (rw (mul_right_comm (x / v) u v, ← e) (mul-le-mul_right u (div-mul-le_self x v))) v_pos

  part_high : a < suc (x / v) * u
  part_high = lt_of_mul-lt-mul_right v (rw (← e, mul_right_comm (suc (x / v)) u v, mul_comm (suc (x / v)) v) (rw add-one at (mul-lt-mul_of_pos_right (lt-mul-div-succ x v_pos) u_pos)))

-- the ends between which a float can be cut to a whole number of 64 bits
low_end : HasUnits binary64 (fin true 1 (pos 0)) true metre
low_end = record { value = (refl, refl) }

high_end : HasUnits binary64 (fin false 1 (pos 64)) false (2 ^ 64 * metre)
high_end = record { value = (refl, refl) }

first_above : (x a : ℕ) → 0 < x → 0 < x + a
first_above x a h = omega arith

second_above : (a x : ℕ) → 0 < x → 0 < a + x
second_above a x h = omega arith

pub record Part (d : Float) : Type 0 where
  -- it can be cut to whole metres
  pub above : T (fin true 1 (pos 0) ≺ d)
  pub below : T (d ≺ fin false 1 (pos 64))
  pub few : to_unsigned 64 d ≤ 1000000
  pub whole : to_unsigned 64 d * metre ≤ unit_count binary64 d
  pub next : unit_count binary64 d < suc (to_unsigned 64 d) * metre
  pub most : unit_count binary64 d ≤ 1000000 * metre
  -- the code's test for a started metre
  pub started : (of_int binary64 (pos (to_unsigned 64 d)) ≺ d) ≡ ltb (to_unsigned 64 d * metre) (unit_count binary64 d)

pub at_most : (a b : ℕ) → (below false a false b || level false a false b) ≡ true → a ≤ b
at_most a b h = go (ltb a b) (eqb a b) refl refl h
  where
    go : (p q : Bool) → ltb a b ≡ p → eqb a b ≡ q → (p || (q && true)) ≡ true → a ≤ b
    go true q e f k = omega (arith, ltb-true a b e)
    go false true e f k = omega (arith, eqb-true a b f)
    go false false e f k = absurd (true≢false (sym k))

-- what has a sign and is not -0 is below 0
pub below_zero : (m : ℕ) (e : ℤ) → (fin true (suc m) e ≺ +0) ≡ false → ⊥
unfolding lt of_bits
below_zero m e h =
    let u : 0 < suc m * up e = mul-pos (zero-lt-suc m) (up_pos e) in
    true≢false (sym (lt-ltb 0 (suc m * up e * 1 + 0 * 1 * down e) (omega arith)) ∙ h)

-- of a finite float, by its sign: the negative one is -0
fin_part : (s : Bool) (m : ℕ) (e : ℤ) → T (fits binary64 (fin s m e)) → (fin s m e ≺ +0) ≡ false → (fin s m e ≼ FARTHEST) ≡ true → Part (fin s m e)
unfolding negative to_unsigned unit_count
fin_part false m e t h k =
    let a = unit_count binary64 (fin false m e) in
    let n = m * up e / down e in
    let v = (finite_of binary64 (fin false m e) t tt).units in
    let most : a ≤ 1000000 * metre = at_most a (1000000 * metre) (sym (le_units v farthest_units) ∙ k) in
    let low = part_low (m * up e) (down e) a metre (down_pos e) (pow_pos 1074) v.value.1 in
    let high = part_high (m * up e) (down e) a metre (down_pos e) (pow_pos 1074) v.value.1 in
    let few : n ≤ 1000000 = le_of_mul-le-mul_right (le_trans low most) (pow_pos 1074) in
    let cut : min n (2 ^ 64 - 1) ≡ n = omega arith in
    let fewer : 1000000 < 2 ^ 64 = omega arith in
    record {
      above = rw (lt_units low_end v) (lt→ltb 0 (metre + a) (first_above metre a (pow_pos 1074)));
      below = rw (lt_units v high_end) (lt→ltb a (2 ^ 64 * metre) (lt_of_le_of_lt most (mul-lt-mul_of_pos_right fewer (pow_pos 1074))));
      few = rw cut few;
      whole = rw cut low;
      next = rw cut high;
      most = most;
      started = rw cut (lt_units (whole_units n (omega arith)) v);
    }
fin_part true zero e t h k =
    let v = (finite_of binary64 (fin true zero e) t tt).units in
    let nought : 0 * up e * metre / down e ≡ 0 = rw (zero-mul (up e), zero-mul metre) (zero-div (down e)) in
    let a = 0 * up e * metre / down e in
    record {
      above = rw (lt_units low_end v) (lt→ltb a metre (rw nought (pow_pos 1074)));
      below = rw (lt_units v high_end) (lt→ltb 0 (a + 2 ^ 64 * metre) (second_above a (2 ^ 64 * metre) (mul-pos (pow_pos 64) (pow_pos 1074))));
      few = zero-le;
      whole = rw (zero-mul metre) zero-le;
      next = rw (nought, one-mul metre) (pow_pos 1074);
      most = rw nought zero-le;
      started = lt_units (whole_units 0 (omega arith)) v ∙ sym (le-ltb (0 * metre) a (rw nought zero-le));
    }
fin_part true (suc m) e t h k = absurd (below_zero m e h)

pub part : (d : Float) → T (fits binary64 d) → (d ≺ +0) ≡ false → (d ≼ FARTHEST) ≡ true → Part d
unfolding lt le eq of_bits
part nan t h k = absurd (true≢false (sym k))
part (inf true) t h k = absurd (true≢false h)
part (inf false) t h k = absurd (true≢false (sym k))
part (fin s m e) t h k = fin_part s m e t h k
