-- What the fields of a pattern without its sign say, in units of 2^-1074.
use mathlib.Core.Path.{◌≡◌, refl, ap}
use mathlib.Core.Bool.{Bool, true, false, cond}
use Prim.Native.Nat.{ℕ, suc, ◌+◌, ◌*◌, ◌/◌, ◌%◌, ◌^◌, ◌<◌}
use native.Mathlib.Nat.{mul-one, mod-eq_of_lt}
use native.Mathlib.Omega.{arith}
use borrow.Author.Tests.{lt-leb, ne_eqb}
use lib.Dec.{eqb}
use lib.Ieee.{nan, inf, binary64, of_bits, of_fields, top, hid, ones}
use lib.Ieee.Exact.{odd_sign}
use lib.Ieee.Scale.{finite}
use Rattle.float.specs.Operators.{f64}
use Rattle.float.proofs.Units.{HasUnits}

field_of : (b : ℕ) → b < 2 ^ 63 → b % top binary64 / hid binary64 ≡ b / 2 ^ 52
field_of b h = ap (λ (n : ℕ). n / 2 ^ 52) (mod-eq_of_lt h)

pub subnormal_units : (b : ℕ) → b < 2 ^ 52 → HasUnits binary64 (f64 b) false b
unfolding of_bits of_fields
subnormal_units b h =
    let z : b / 2 ^ 52 ≡ 0 = omega arith in
    simp (lt-leb (top binary64) b (omega arith), field_of b (omega arith), z, mod-eq_of_lt h)
    (record { value = rw mul-one at (odd_sign 53 false b 0 1074) })

pub normal_units : (b j : ℕ) → b < 2 ^ 63 → b / 2 ^ 52 ≡ suc j → (suc j ≡ 2047 → ⊥)
    → HasUnits binary64 (f64 b) false ((2 ^ 52 + b % 2 ^ 52) * 2 ^ j)
unfolding of_bits of_fields
normal_units b j h field other =
    simp (lt-leb (top binary64) b h, field_of b h, field, ne_eqb (suc j) (ones binary64) other)
    (record { value = odd_sign 53 false (2 ^ 52 + b % 2 ^ 52) j 1074 })

pub top_field : (b : ℕ) → b < 2 ^ 63 → b / 2 ^ 52 ≡ 2047 → finite (f64 b) ≡ false
unfolding of_bits of_fields
top_field b h field = simp (lt-leb (top binary64) b h, field_of b h, field) (none (eqb (b % 2 ^ 52) 0))
  where
    none : (t : Bool) → finite (cond t (inf false) nan) ≡ false
    none true = refl
    none false = refl
