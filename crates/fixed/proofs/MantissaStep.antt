-- The step at SQRT_2: one test halves m and adds 1 to the exponent's field.
use mathlib.Core.Path.{◌≡◌}
use mathlib.Core.Bool.{Bool, true, false, cond}
use Prim.Native.Nat.{ℕ, ◌+◌}
use native.Mathlib.Nat.{add-zero}
use lib.IntN.{pos, ◌+ℤ◌, ◌-ℤ◌}
use lib.Ieee.{Float, binary64, of_int}
use Rattle.float.specs.Operators.{◌⊗◌}
use Rattle.float.specs.Constants.{half}
use Rattle.sums.specs.Counting.{bit}
use Rattle.fixed.specs.Logarithm.{ln_near_one}
use Rattle.fixed.proofs.Differences.{one_more}

pub step : (b : Bool) (m : Float) (a c : ℕ)
    → ln_near_one (cond b (m ⊗ half) m) (of_int binary64 (pos (a + bit b) -ℤ pos c))
    ≡ cond b (ln_near_one (m ⊗ half) (of_int binary64 ((pos a -ℤ pos c) +ℤ pos 1))) (ln_near_one m (of_int binary64 (pos a -ℤ pos c)))
step true m a c = rw (one_more a c)
step false m a c = rw add-zero
