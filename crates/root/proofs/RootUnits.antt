-- The root of m * 2 ^ e units, for an m of 53 digits, by the nearest whole root of m or 2 * m.
use Rattle.std.proofs.Common.{◌≡◌, ℕ, zero, suc, ◌+◌, ◌-◌, ◌*◌, ◌/◌, ◌%◌, ◌^◌, ◌<◌, ◌≤◌, false, not, T, refl, sym, ap, ◌∙◌, ap₂, lt_of_lt_of_le, mul_assoc, le-mul_of_pos_right, arith, pow_pos, pow_mono, pow-add, shl_lt, shl_exact}
use native.Mathlib.Nat.{pow-succ'}
use lib.Ieee.{binary64, size, units, of_bits, nan_bits}
use Rattle.root.specs.Root.{nearest_root, root_units}
use Rattle.root.specs.Nearest.{NearestWhole}
use Rattle.root.proofs.NearWhole.{between, near_unique}
use Rattle.root.proofs.NearestRoot.{nearest_root_near}
use Rattle.root.proofs.Packed.{size_scaled, packed, packed_no_nan}

quadruple : (x y : ℕ) → x ≡ y * y → 4 * x ≡ 2 * y * (2 * y)
quadruple x y h = omega arith

pub four_pow : (j : ℕ) → 4 ^ j ≡ 2 ^ j * 2 ^ j
four_pow zero = refl
four_pow (suc j) = rw (pow-succ' 4 j, pow-succ' 2 j) (quadruple (4 ^ j) (2 ^ j) (four_pow j))

-- m shifted by one place or none
module _ (m p : ℕ) (h : m < 2 ^ 53) (k : p < 2) where
  pub shifted : (m * 2 ^ p) % 2 ^ 64 ≡ m * 2 ^ p
  shifted = shl_exact 53 p 64 h (omega arith)

  pub shifted_lt : m * 2 ^ p < 2 ^ 54
  shifted_lt = lt_of_lt_of_le (shl_lt 53 p h) (pow_mono {i = 53 + p} {j = 54} (omega arith))

pub shifted_ge : (m p : ℕ) → m ≤ m * 2 ^ p
shifted_ge m p = le-mul_of_pos_right m (pow_pos p)

-- 2 ^ e as 2 ^ (e % 2), 2 ^ 52 and a power of 4
halves : (m e : ℕ) → 52 ≤ e → m * 2 ^ e ≡ m * 2 ^ (e % 2) * 2 ^ 52 * 4 ^ (e / 2 - 26)
halves m e h =
    let j = e / 2 - 26 in
    let s : e ≡ e % 2 + (52 + (j + j)) = omega arith in
    let t : 2 ^ e ≡ 2 ^ (e % 2) * (2 ^ 52 * 4 ^ j) = rw (four_pow j, ← (pow-add 2 j j), ← (pow-add 2 52 (j + j)), ← (pow-add 2 (e % 2) (52 + (j + j))), ← s) in
    rw (t, ← mul_assoc, ← mul_assoc)

-- t is the nearest whole number to the root of m * 2 ^ p * 2 ^ 52, and the root is t * 2 ^ k units
pub record Rooted (m e t : ℕ) : Type 0 where
  pub near : NearestWhole (m * 2 ^ (e % 2) * 2 ^ 52) t
  pub least : 2 ^ 52 ≤ t
  pub most : t ≤ 2 ^ 53
  pub square : 4 ^ 52 ≤ m * 2 ^ (e % 2) * 2 ^ 52
  pub size : m * 2 ^ e ≡ m * 2 ^ (e % 2) * 2 ^ 52 * 4 ^ (e / 2 - 26)
  pub root : root_units (m * 2 ^ e) ≡ units binary64 false t (e / 2 - 26)

pub rooted : {m e t : ℕ} → 2 ^ 52 ≤ m → m < 2 ^ 53 → 52 ≤ e → NearestWhole (m * 2 ^ (e % 2) * 2 ^ 52) t → Rooted m e t
unfolding root_units
rooted {m} {e} {t} lo hi E v =
    let k = e / 2 - 26 in
    let w : ℕ = m * 2 ^ (e % 2) * 2 ^ 52 in
    let W : 4 ^ 52 ≤ w = omega (arith, shifted_ge m (e % 2)) in
    let W' : w < 4 ^ 53 = omega (arith, shifted_lt m (e % 2) hi (omega arith)) in
    let z : suc (size (m * 2 ^ e)) / 2 - 53 ≡ k = omega (arith, size_scaled 52 m e lo hi) in
    let n : nearest_root (w * 4 ^ k) k ≡ t = near_unique (nearest_root_near w k (omega arith) W') v in
    record {
      near = v;
      least = between {s = 2 ^ 52} (omega arith) v.below;
      most = between {t = 2 ^ 53} v.above (omega arith);
      square = W;
      size = halves m e E;
      root = ap₂ (λ (k w : ℕ). units binary64 false (nearest_root w k) k) z (halves m e E) ∙ ap (λ (x : ℕ). units binary64 false x k) n;
    }

pub rooted_nearest : {m e : ℕ} → 2 ^ 52 ≤ m → m < 2 ^ 53 → 52 ≤ e → (t : ℕ) × Rooted m e t
rooted_nearest {m} {e} lo hi E =
    let w : ℕ = m * 2 ^ (e % 2) * 2 ^ 52 in
    (nearest_root (w * 4 ^ 0) 0, rooted lo hi E (nearest_root_near w 0 (omega (arith, shifted_ge m (e % 2))) (omega (arith, shifted_lt m (e % 2) hi (omega arith)))))

-- t and the exponent in one pattern
module _ (m e t : ℕ) (lo : 2 ^ 52 ≤ m) (hi : m < 2 ^ 53) (E : 52 ≤ e) (L : e < 4096) (v : NearestWhole (m * 2 ^ (e % 2) * 2 ^ 52) t) where
  pub packed_root : of_bits binary64 ((e / 2 - 26) * 2 ^ 52 + t) ≡ root_units (m * 2 ^ e)
  packed_root = let r = rooted lo hi E v in packed _ _ r.most (omega arith) r.least ∙ sym r.root

  pub packed_root_no_nan : T (not (nan_bits binary64 ((e / 2 - 26) * 2 ^ 52 + t)))
  packed_root_no_nan = packed_no_nan _ _ (rooted lo hi E v).most (omega arith)
