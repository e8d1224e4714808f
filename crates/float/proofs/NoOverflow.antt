-- The largest numbers of p digits are so far apart that adding a small one to them does not overflow.
use Prim.Native.Nat.{ℕ, ◌+◌, ◌*◌, ◌^◌, ◌<◌}
use native.Mathlib.Omega.{arith}
use Rattle.float.proofs.Representable.{Representable}
use Rattle.float.proofs.Rounded.{rounded_whole}
use Rattle.float.proofs.HalfUnit.{whole_half_unit}
use Rattle.float.proofs.Spacing.{gap}

-- the last gap before 2 ^ (p + k) is 2 ^ k, and adding less than half of it does not reach 2 ^ (p + k)
pub whole_sum_below : {p n : ℕ} (k m : ℕ) → 0 < p → Representable p n → n < 2 ^ (p + k) → 2 * m < 2 ^ k
    → rounded_whole p (n + m) < 2 ^ (p + k)
whole_sum_below {p} {n} k m P r h l =
    let g = gap k P r h in
    let s : n + m < 2 ^ (p + k) = omega arith in
    let w = whole_half_unit p k s in
    omega arith
