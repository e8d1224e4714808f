-- Rust's `u32::from` of a bool counts it.
use mathlib.Core.Path.{◌≡◌, refl}
use mathlib.Core.Bool.{Bool, true, false}
use Prim.Native.Nat.{◌≤◌}
use lib.Dec.{lit≤}
use Rattle.std.specs.Int.{from_bool}
use Rattle.sums.specs.Counting.{bit}

pub bit_is : (b : Bool) → from_bool b ≡ bit b
bit_is true = refl
bit_is false = refl

pub bit_most : (b : Bool) → from_bool b ≤ 1
bit_most true = lit≤ tt
bit_most false = lit≤ tt
