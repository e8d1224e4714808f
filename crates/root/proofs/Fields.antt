-- What the bits of a finite f64 above 0 say of its number of units.
use Rattle.std.proofs.Common.{◌≡◌, ℕ, ◌+◌, ◌-◌, ◌*◌, ◌/◌, ◌%◌, ◌^◌, ◌<◌, ◌≤◌, false, sym, refl, ap, ◌∙◌, inl, inr, lt_of_lt_of_le, eq-zero-or-pos, lt_of_mul-lt-mul_right, mul-one, le_of_mul-le-mul_right, div-one, mul-div_cancel, arith, pow_pos, pow_mono, pow-add}
use lib.Ieee.{Float, binary64, size, to_bits}
use lib.Ieee.Digits.{size-lt, size-le, size_reaches}
use Rattle.float.proofs.Representable.{Representable}
use Rattle.float.proofs.Spacing.{spaced}
use Rattle.float.proofs.Finite.{Finite}
use Rattle.root.proofs.Packed.{bits_of_units}

-- b is the bits of a units: the field b / 2 ^ 52 and the digits b % 2 ^ 52
pub record Fields (a b : ℕ) : Type 0 where
  pub below : b / 2 ^ 52 < 2047
  pub small : b / 2 ^ 52 ≡ 0 → a ≡ b
  pub normal : 0 < b / 2 ^ 52 → a ≡ (b % 2 ^ 52 + 2 ^ 52) * 2 ^ (b / 2 ^ 52 - 1)

-- a is its leading 53 digits t, and then k zeros
record Kept (a k t : ℕ) : Type 0 where
  pub exact : a ≡ t * 2 ^ k
  pub digits : t < 2 ^ 53
  pub leading : 0 < k → 2 ^ 52 ≤ t

fields_of : {a k t : ℕ} → Kept a k t → k ≤ 2045 → Fields a (k * 2 ^ 52 + t)
fields_of {a} {k} {t} v K =
    let T = v.digits in
    record {
      below = omega arith;
      small = λ f.
          let z : k ≡ 0 = omega arith in
          v.exact ∙ rw z (mul-one t ∙ omega arith);
      normal = λ f.
          let l : 2 ^ 52 ≤ t = elim (eq-zero-or-pos k) [ inl z ↦ omega arith | inr P ↦ v.leading P ] in
          let q : (k * 2 ^ 52 + t) % 2 ^ 52 + 2 ^ 52 ≡ t = omega arith in
          let j : (k * 2 ^ 52 + t) / 2 ^ 52 - 1 ≡ k = omega arith in
          rw (q, j) v.exact;
    }

kept : (a k : ℕ) → Representable 53 a → size a - 53 ≡ k → Kept a k (a / 2 ^ k)
kept a k r s = elim (eq-zero-or-pos k) [
  | inl z ↦ rw z (record {
    exact = rw (div-one, mul-one);
    digits = rw div-one (lt_of_lt_of_le (size-lt a) (pow_mono {i = size a} {j = 53} (omega arith)));
    leading = λ P. absurd (omega arith);
  })
  | inr P ↦
      let h : 2 ^ 52 * 2 ^ k ≤ a = rw (pow-add 2 52 k) at (size_reaches a (52 + k) (omega arith)) in
      let m = spaced k r h in
      let e : m.0 ≡ a / 2 ^ k = sym (ap (λ (x : ℕ). x / 2 ^ k) m.1 ∙ mul-div_cancel m.0 (pow_pos k)) in
      let z : size a ≡ 53 + k = omega arith in
      rw (← e) (record {
        exact = m.1;
        digits = lt_of_mul-lt-mul_right (2 ^ k) (rw (← m.1, ← (pow-add 2 53 k), ← z) (size-lt a));
        leading = λ P. le_of_mul-le-mul_right (rw m.1 at h) (pow_pos k);
      })
]

pub fields : {x : Float} {a : ℕ} → Finite binary64 x false a → Fields a (to_bits binary64 x)
fields {x} {a} v = rw (bits_of_units v.units) (fields_of (kept a (size a - 53) v.representable refl) (omega (arith, size-le a 2098 v.below_overflow)))
