-- What is below half a unit is rounded to 0.
use mathlib.Core.Path.{◌≡◌}
use Prim.Native.Nat.{ℕ, ◌+◌, ◌*◌, ◌^◌, ◌<◌}
use native.Mathlib.Nat.{mul-le-mul_right, lt_of_mul-lt-mul_right}
use native.Mathlib.Omega.{arith}
use lib.Arith.{lt-one}
use lib.Pow.{pow_pos}
use Rattle.float.proofs.Rounded.{rounded}
use Rattle.float.proofs.HalfUnit.{rounded_half_unit}

pub rounded_none : (p n : ℕ) {d : ℕ} → 0 < d → 2 * n < d → rounded p n d ≡ 0
rounded_none p n {d} D h =
    let l : n < 2 ^ (p + 0) * d = omega (arith, mul-le-mul_right d (pow_pos (p + 0))) in
    lt-one (lt_of_mul-lt-mul_right d (omega (arith, (rounded_half_unit p 0 D l).over)))
