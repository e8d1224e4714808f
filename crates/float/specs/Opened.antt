-- For theorems by computation: naming `opened` opens every definition of this crate and of those below it.
use Rattle.std.specs.Float.Ieee.{of_bits, to_bits, of_int, round, units, odd, size, neg, add, sub, mul, div, rem, lt, le, eq, is_nan}
use Rattle.float.specs.Sign as sign
use Rattle.float.specs.Limits as limits
use Rattle.float.specs.Units as of_units
use Rattle.float.specs.Pi as pi

unfoldable pub opened : Unit {0}
unfolding sign.negative sign.abs sign.signum limits.clamp limits.max_zero of_units.unit_count of_units.in_units
    pi.arctan_low pi.arctan_high pi.pi_low pi.pi_high of_bits to_bits of_int round units odd
    size neg add sub mul div rem lt le eq is_nan
opened = tt
