-- A finite f64 above 0 as m * 2 ^ e with an m of 53 digits, by its bits.
use Rattle.std.proofs.Common.{◌≡◌, ℕ, zero, suc, ◌+◌, ◌-◌, ◌*◌, ◌/◌, ◌%◌, ◌^◌, ◌<◌, ◌≤◌, true, false, T, refl, ap, ◌∙◌, inl, inr, lt_of_lt_of_le, lt_of_le_of_lt, mul-le-mul_right, mul_assoc, eq-zero-or-pos, arith, lit≤, pow_pos, pow-add, shl_lt, shl_exact}
use lib.Count.{count_leading_zeros, leading_top}
use lib.Ieee.{Float, nan, inf, fin, binary64, fits, to_bits}
use lib.Ieee.Positive.{positive, value_pos}
use lib.Ieee.Scale.{finite}
use Rattle.float.specs.Units.{unit_count}
use Rattle.float.specs.Sign.{negative}
use Rattle.float.proofs.Powers.{pow_lt_back}
use Rattle.float.proofs.Finite.{Finite, finite_of}
use Rattle.root.specs.Root.{root, root_units}
use Rattle.root.proofs.Fields.{Fields, fields}

pub record Scaled (x : Float) (m e : ℕ) : Type 0 where
  pub low : 2 ^ 52 ≤ m
  pub high : m < 2 ^ 53
  pub least : 52 ≤ e
  pub most : e < 4096
  pub size : unit_count binary64 x * 2 ^ 1074 ≡ m * 2 ^ e
  pub root : root x ≡ root_units (m * 2 ^ e)

-- x is a subnormal number, whose bits begin with z zeros
pub record Small (x : Float) (z : ℕ) : Type 0 where
  pub least : 11 ≤ z
  pub most : z ≤ 63
  pub scaled : Scaled x ((to_bits binary64 x * 2 ^ (z - 11)) % 2 ^ 64) (1074 - (z - 11))

-- b's digits, shifted up until the leading one stands at 2 ^ 52; z is the number of zeros before it in 64
record Shifted (b z : ℕ) : Type 0 where
  pub least : 11 ≤ z
  pub most : z ≤ 63
  pub low : 2 ^ 52 ≤ (b * 2 ^ (z - 11)) % 2 ^ 64
  pub high : (b * 2 ^ (z - 11)) % 2 ^ 64 < 2 ^ 53
  pub same : b * 2 ^ 1074 ≡ (b * 2 ^ (z - 11)) % 2 ^ 64 * 2 ^ (1074 - (z - 11))

shift_up : (b : ℕ) → 0 < b → b < 2 ^ 52 → Shifted b (count_leading_zeros 64 b)
shift_up b p h =
    let z : ℕ = count_leading_zeros 64 b in
    let l = leading_top 64 b p (lt_of_lt_of_le h (lit≤ tt)) in
    let j : ℕ = l.0 in
    let e : z + suc j ≡ 64 = l.1 in
    let J : j < 52 = pow_lt_back (lt_of_le_of_lt l.2 h) in
    let s : ℕ = z - 11 in
    let js : j + s ≡ 52 = omega arith in
    let js' : suc j + s ≡ 53 = omega arith in
    let ss : s + (1074 - s) ≡ 1074 = omega arith in
    let x : (b * 2 ^ s) % 2 ^ 64 ≡ b * 2 ^ s = shl_exact (suc j) s 64 l.3 (omega arith) in
    record {
      least = omega arith;
      most = omega arith;
      low = rw x (rw (← (pow-add 2 j s), js) at (mul-le-mul_right (2 ^ s) l.2));
      high = rw x (rw js' at (shl_lt (suc j) s l.3));
      same = rw (x, mul_assoc, ← (pow-add 2 s (1074 - s)), ss);
    }

root_positive : (x : Float) → T (positive x) → (negative x ≡ false) × (T (finite x)) × (root x ≡ root_units (unit_count binary64 x * 2 ^ 1074))
unfolding root unit_count negative
root_positive (fin false (suc m) e) p = (refl, tt, refl)
root_positive (fin false zero e) p = absurd p
root_positive (fin true m e) p = absurd p
root_positive (inf s) p = absurd p
root_positive nan p = absurd p

module _ (x : Float) (f : T (fits binary64 x)) (p : T (positive x)) where
  pub finite_positive : Finite binary64 x false (unit_count binary64 x)
  finite_positive = let r = root_positive x p in rw r.0 at (finite_of binary64 x f r.1)

  pub fields_positive : Fields (unit_count binary64 x) (to_bits binary64 x)
  fields_positive = fields finite_positive

  pub scaled_normal : 0 < to_bits binary64 x / 2 ^ 52 → Scaled x (to_bits binary64 x % 2 ^ 52 + 2 ^ 52) (to_bits binary64 x / 2 ^ 52 + 1073)
  scaled_normal h =
      let b : ℕ = to_bits binary64 x in
      let v = fields_positive in
      let k = v.below in
      let e : b / 2 ^ 52 - 1 + 1074 ≡ b / 2 ^ 52 + 1073 = omega arith in
      let s : unit_count binary64 x * 2 ^ 1074 ≡ (b % 2 ^ 52 + 2 ^ 52) * 2 ^ (b / 2 ^ 52 + 1073) = ap (λ (a : ℕ). a * 2 ^ 1074) (v.normal h) ∙ rw (mul_assoc, ← (pow-add 2 (b / 2 ^ 52 - 1) 1074), e) in
      record { low = omega arith; high = omega arith; least = omega arith; most = omega arith; size = s; root = (root_positive x p).2 ∙ ap root_units s }

  pub scaled_small : to_bits binary64 x / 2 ^ 52 ≡ 0 → Small x (count_leading_zeros 64 (to_bits binary64 x))
  scaled_small h =
      let b : ℕ = to_bits binary64 x in
      let e = fields_positive.small h in
      let P : 0 < b = rw e at (value_pos x (unit_count binary64 x) (2 ^ 1074) p (pow_pos 1074) finite_positive.units.value) in
      let v = shift_up b P (omega arith) in
      let s = ap (λ (a : ℕ). a * 2 ^ 1074) e ∙ v.same in
      record {
        least = v.least;
        most = v.most;
        scaled = record { low = v.low; high = v.high; least = omega (arith, v.most); most = omega arith; size = s; root = (root_positive x p).2 ∙ ap root_units s };
      }

  pub form : (m : ℕ) × (e : ℕ) × Scaled x m e
  form = elim (eq-zero-or-pos (to_bits binary64 x / 2 ^ 52)) [
    | inl z ↦ (_, _, (scaled_small z).scaled)
    | inr h ↦ (_, _, scaled_normal h)
  ]
