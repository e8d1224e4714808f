-- The numbers that a significand of p binary digits holds.
use mathlib.Core.Path.{◌≡◌, refl, ◌∙◌}
use Prim.Native.Nat.{ℕ, ◌-◌, ◌*◌, ◌^◌, ◌≤◌, ◌<◌}
use native.Mathlib.Nat.{le_of_lt, lt_of_le_of_lt, lt_of_not-le, mul_assoc, le_of_mul-le-mul_right, sub-add_cancel}
use native.Mathlib.Decide.{dec_le}
use lib.Pow.{pow-add, pow_pos}

-- n is q * 2 ^ j with a q below 2 ^ p
pub record Representable (p n : ℕ) : Type 0 where
  pub significand : ℕ
  pub exponent : ℕ
  pub digits : significand < 2 ^ p
  pub exact : n ≡ significand * 2 ^ exponent

pub representable_zero : {p : ℕ} → Representable p 0
representable_zero {p} = record { significand = 0; exponent = 0; digits = pow_pos p; exact = refl }

-- the same number with a lower exponent
pub lower_exponent : (q : ℕ) {j k : ℕ} → k ≤ j → q * 2 ^ j ≡ q * 2 ^ (j - k) * 2 ^ k
lower_exponent q {j} {k} h = rw (mul_assoc, ← pow-add 2 (j - k) k, sub-add_cancel h)

-- m is at most n, and a multiple of n's power of two
pub representable_below : {p m n : ℕ} (r : Representable p n) (t : ℕ) → m ≡ t * 2 ^ r.exponent → m ≤ n → Representable p m
representable_below r t e h = record {
  significand = t;
  exponent = r.exponent;
  digits = lt_of_le_of_lt (le_of_mul-le-mul_right (rw (← e, ← r.exact) h) (pow_pos r.exponent)) r.digits;
  exact = e;
}

-- n is at most x and y, and every power of two that divides both divides n
pub representable_below_both : {p n x y : ℕ} → Representable p x → Representable p y → n ≤ x → n ≤ y
    → ((a b i : ℕ) → x ≡ a * 2 ^ i → y ≡ b * 2 ^ i → (t : ℕ) × (n ≡ t * 2 ^ i)) → Representable p n
representable_below_both r s h k multiple = elim (dec_le r.exponent s.exponent) [
  | yes g ↦
      let i = r.exponent in
      let y_is = s.exact ∙ lower_exponent s.significand g in
      let m = multiple r.significand (s.significand * 2 ^ (s.exponent - i)) i r.exact y_is in
      representable_below r m.0 m.1 h
  | no g ↦
      let i = s.exponent in
      let x_is = r.exact ∙ lower_exponent r.significand (le_of_lt (lt_of_not-le g)) in
      let m = multiple (r.significand * 2 ^ (r.exponent - i)) s.significand i x_is s.exact in
      representable_below s m.0 m.1 k
]
