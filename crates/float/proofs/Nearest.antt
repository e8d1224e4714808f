-- No number of p digits is nearer to a fraction than its rounded value.
use mathlib.Core.Path.{◌≡◌}
use mathlib.Core.Logic.{inl, inr}
use Prim.Native.Nat.{ℕ, ◌+◌, ◌-◌, ◌*◌, ◌^◌, ◌≤◌, ◌<◌}
use native.Mathlib.Nat.{le_antisymm, lt_of_not-le, eq-zero-or-pos, mul-one, mul-le-mul_right, le-div_iff_mul-le}
use native.Mathlib.Decide.{dec_le}
use native.Mathlib.Omega.{arith}
use lib.Pow.{pow-add}
use lib.Ieee.Order.{drop, kept}
use Rattle.float.proofs.Powers.{twice_pow_pred}
use Rattle.float.proofs.Representable.{Representable}
use Rattle.float.proofs.Spacing.{spaced, gap}
use Rattle.float.proofs.Near.{Near}
use Rattle.float.proofs.Kept.{dropped_le}
use Rattle.float.proofs.Rounded.{rounded}
use Rattle.float.proofs.HalfUnit.{rounded_half_step}

-- another multiple of the unit u of the last digit is at least u away
multiple : (q t u d n e : ℕ) → Near (2 * (q * u * d)) (2 * n) (d * u) → Near (t * u * d) n e → Near (q * u * d) n e
multiple q t u d n e h w = elim (dec_le q t) [
  | yes a ↦ elim (dec_le t q) [
    | yes b ↦ rw (le_antisymm a b) w
    | no b ↦ omega (arith, mul-le-mul_right (u * d) (lt_of_not-le b))
  ]
  | no a ↦ omega (arith, mul-le-mul_right (u * d) (lt_of_not-le a))
]

-- a number below all p-digit multiples of u is at least half of u away
below : (r m u h b d n e : ℕ) → u ≡ 2 * h → m + h ≤ b → b * d ≤ n → Near (2 * (r * d)) (2 * n) (d * u) → Near (m * d) n e
    → Near (r * d) n e
below r m u h b d n e t g l v w = let v' = rw t at v in omega (arith, mul-le-mul_right d g)

pub rounded_nearest : {p m n d e : ℕ} → 0 < p → 0 < d → Representable p m → Near (m * d) n e → Near (rounded p n d * d) n e
unfolding rounded
rounded_nearest {p} {m} {n} {d} {e} P D r w = elim (eq-zero-or-pos (drop p n d)) [
  | inl z ↦ on_unit m (rw (z, mul-one))
  | inr K ↦ elim (dec_le (2 ^ (p - 1) * 2 ^ k) m) [
    | yes g ↦ let t = spaced k r g in on_unit t.0 t.1
    | no g ↦
        let i : p - 1 + k ≡ p + (k - 1) = omega arith in
        let b : 2 ^ (p - 1) * 2 ^ k ≡ 2 ^ (p + (k - 1)) = rw (← pow-add, i) in
        below (rounded p n d) m (2 ^ k) (2 ^ (k - 1)) (2 ^ (p + (k - 1))) d n e (twice_pow_pred K)
        (gap (k - 1) P r (rw b at (lt_of_not-le g))) ((le-div_iff_mul-le D).0 (rw b at (dropped_le p n d P K))) (rounded_half_step p n D) w
  ]
]
  where
    k : ℕ
    k = drop p n d

    on_unit : (t : ℕ) → m ≡ t * 2 ^ k → Near (rounded p n d * d) n e
    on_unit t s = multiple (kept p n d) t (2 ^ k) d n e (rounded_half_step p n D) (rw s at w)
