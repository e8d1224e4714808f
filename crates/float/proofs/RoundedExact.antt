-- Rounding to p digits leaves a number of p digits as it is.
use mathlib.Core.Path.{◌≡◌, sym, ap, ◌∙◌}
use Prim.Native.Nat.{ℕ, ◌+◌, ◌-◌, ◌*◌, ◌/◌, ◌^◌, ◌≤◌, ◌<◌}
use native.Mathlib.Nat.{le_refl, mul-one, mul-pos, div-one, mod-one, mul-div_cancel}
use native.Mathlib.Omega.{arith}
use lib.Pow.{pow_pos, shl_lt}
use lib.Ieee.{size}
use lib.Ieee.Digits.{size-le}
use lib.Ieee.Nearest.{closest, closest_same}
use lib.Ieee.Order.{drop}
use Rattle.float.proofs.Representable.{Representable, lower_exponent}
use Rattle.float.proofs.Rounded.{rounded, rounded_whole}

closest_multiple : (q : ℕ) {u : ℕ} → 0 < u → closest (q * u) u ≡ q
closest_multiple q {u} h = closest_same (q * u) u q 1 h (le_refl 1) (mul-one (q * u)) ∙ rw (div-one, mod-one)

-- the digits that are dropped are all zeros
dropped_le_exponent : {p m d : ℕ} → 0 < d → (r : Representable p m) → drop p (m * d) d ≤ r.exponent
dropped_le_exponent {p} {m} {d} D r =
    let l : m < 2 ^ (p + r.exponent) = rw r.exact (shl_lt p r.exponent r.digits) in
    let s : size (m * d / d) ≤ p + r.exponent = size-le (m * d / d) (p + r.exponent) (rw (mul-div_cancel m D) l) in
    omega arith

pub rounded_exact : {p m d : ℕ} → 0 < d → Representable p m → rounded p (m * d) d ≡ m
unfolding rounded
rounded_exact {p} {m} {d} D r =
    let k = drop p (m * d) d in
    let t = r.significand * 2 ^ (r.exponent - k) in
    let e : m ≡ t * 2 ^ k = r.exact ∙ lower_exponent r.significand (dropped_le_exponent D r) in
    ap (λ (x : ℕ). closest x (d * 2 ^ k) * 2 ^ k) (multiple m t (2 ^ k) d e)
    ∙ ap (λ (x : ℕ). x * 2 ^ k) (closest_multiple t (mul-pos D (pow_pos k)))
    ∙ sym e
  where
    multiple : (m t u d : ℕ) → m ≡ t * u → m * d ≡ t * (d * u)
    multiple m t u d e = rw e (omega arith)

pub whole_exact : {p n : ℕ} → Representable p n → rounded_whole p n ≡ n
whole_exact r = rw mul-one at (rounded_exact (le_refl 1) r)
