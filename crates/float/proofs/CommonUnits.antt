-- Two fractions over a common denominator: if x / w = a / c and y / w = b / c, then x and y compare, add, subtract and divide as a and b do.
use mathlib.Core.Path.{◌≡◌, sym, ap, ◌∙◌}
use mathlib.Core.Bool.{Bool}
use Prim.Native.Nat.{ℕ, ◌+◌, ◌-◌, ◌*◌, ◌%◌, ◌^◌, ◌<◌}
use native.Mathlib.Nat.{lt_of_not-le, add-mul, mul_comm, mul_assoc, mul_right_comm, mul-pos}
use native.Mathlib.Nat.{mul-le-mul_right, mul-lt-mul_of_pos_right, eq_of_mul-eq-mul_right}
use native.Mathlib.Decide.{dec_le, ℕ_discrete}
use borrow.Author.Tests.{lt-ltb, le-ltb, eq-eqb, ne_eqb}
use lib.IntN.{ℤ}
use lib.Dec.{ltb, eqb}
use lib.Ieee.{Float, nan, inf, fin, Format, low, up, down}
use lib.Ieee.Fits.{down_pos}
use lib.Ieee.Exact.{HasValue}
use lib.Ieee.Positive.{first_pos}
use Rattle.float.proofs.Multiples.{sub_mul, mod_mul}
use Rattle.float.proofs.Units.{HasUnits}

ltb_mul : (x y : ℕ) {c : ℕ} → 0 < c → ltb (x * c) (y * c) ≡ ltb x y
ltb_mul x y {c} C = elim (dec_le y x) [
  | yes h ↦ le-ltb (x * c) (y * c) (mul-le-mul_right c h) ∙ sym (le-ltb x y h)
  | no h ↦ let l = lt_of_not-le h in lt-ltb (x * c) (y * c) (mul-lt-mul_of_pos_right l C) ∙ sym (lt-ltb x y l)
]

eqb_mul : (x y : ℕ) {c : ℕ} → 0 < c → eqb (x * c) (y * c) ≡ eqb x y
eqb_mul x y {c} C = elim (ℕ_discrete x y) [
  | yes e ↦ eq-eqb (x * c) (y * c) (ap (λ (z : ℕ). z * c) e) ∙ sym (eq-eqb x y e)
  | no h ↦ ne_eqb (x * c) (y * c) (λ e. h (eq_of_mul-eq-mul_right c C x y e)) ∙ sym (ne_eqb x y h)
]

module _ (x y a b : ℕ) {c w : ℕ} (C : 0 < c) (W : 0 < w) (p : x * c ≡ a * w) (q : y * c ≡ b * w) where
  pub ltb_common : ltb x y ≡ ltb a b
  ltb_common = sym (ltb_mul x y C) ∙ rw (p, q) (ltb_mul a b W)

  pub eqb_common : eqb x y ≡ eqb a b
  eqb_common = sym (eqb_mul x y C) ∙ rw (p, q) (eqb_mul a b W)

  pub add_common : (x + y) * c ≡ (a + b) * w
  add_common = rw (add-mul x y, add-mul a b, p, q)

  pub sub_common : (x - y) * c ≡ (a - b) * w
  sub_common = rw (sub_mul x y, sub_mul a b, p, q)

  pub mod_common : x % y * c ≡ a % b * w
  mod_common = rw (← mod_mul x y c, ← mod_mul a b w, p, q)

-- ---- two finite floats m * 2 ^ e and n * 2 ^ d of a and b units, over their common denominator
cross : (x v w a c : ℕ) → x * c ≡ a * v → x * w * c ≡ a * (v * w)
cross x v w a c h = rw (mul_right_comm x w c, h, mul_assoc)

pub record Common (f : Format) (a b m n : ℕ) (e d : ℤ) : Type 0 where
  pub left : m * up e * 2 ^ low f ≡ a * down e
  pub right : n * up d * 2 ^ low f ≡ b * down d
  pub left_cross : m * up e * down d * 2 ^ low f ≡ a * (down e * down d)
  pub right_cross : n * up d * down e * 2 ^ low f ≡ b * (down e * down d)
  pub denominators_pos : 0 < down e * down d

-- what holds of all such pairs holds of x and y
pub both_units : {f : Format} {x y : Float} {s t : Bool} {a b : ℕ} (P : Float → Float → Type 0)
    → HasUnits f x s a → HasUnits f y t b → ((m n : ℕ) (e d : ℤ) → Common f a b m n e d → P (fin s m e) (fin t n d)) → P x y
both_units {f} {x} {y} {s} {t} {a} {b} P v w k = go x y v.value w.value
  where
    go : (x y : Float) → HasValue x s a (2 ^ low f) → HasValue y t b (2 ^ low f) → P x y
    go nan y v w = absurd v
    go (inf r) y v w = absurd v
    go (fin r m e) nan v w = absurd w
    go (fin r m e) (inf u) v w = absurd w
    go (fin r m e) (fin u n d) v w = rw (v.0, w.0) (k m n e d (record {
      left = v.1;
      right = w.1;
      left_cross = cross (m * up e) (down e) (down d) a (2 ^ low f) v.1;
      right_cross = rw (mul_comm (down e) (down d)) (cross (n * up d) (down d) (down e) b (2 ^ low f) w.1);
      denominators_pos = mul-pos (down_pos e) (down_pos d);
    }))

-- a float above 0 has an m above 0
pub nonzero : (m u c a v : ℕ) → m * u * c ≡ a * v → 0 < a → 0 < v → 0 < m
nonzero m u c a v e h k = first_pos m u (first_pos (m * u) c (rw e (mul-pos h k)))
