-- Rust's own tests of a number, its sign and a NaN's pattern, by cases.
use mathlib.Core.Path.{◌≡◌, refl}
use mathlib.Core.Bool.{false, true, false≢true}
use lib.Ieee.{Float, nan, inf, fin, binary64, is_nan, neg, of_bits, to_bits}
use lib.Ieee.Scale.{finite}
use Rattle.std.specs.Float.{float_is_finite, float_signum, is_sign_negative}
use Rattle.float.specs.Sign.{negative, signum}

pub finite_in_rust : (x : Float) → float_is_finite x ≡ finite x
unfolding float_is_finite
finite_in_rust nan = refl
finite_in_rust (inf s) = refl
finite_in_rust (fin s m e) = refl

pub signum_in_rust : (x : Float) → float_signum x ≡ signum x
unfolding float_signum signum negative neg is_nan of_bits
signum_in_rust nan = refl
signum_in_rust (inf true) = refl
signum_in_rust (inf false) = refl
signum_in_rust (fin true m e) = refl
signum_in_rust (fin false m e) = refl

pub negative_in_rust : (x : Float) → is_sign_negative x ≡ negative x
unfolding is_sign_negative negative
negative_in_rust nan = refl
negative_in_rust (inf s) = refl
negative_in_rust (fin s m e) = refl

-- the NaN has no sign
pub unsigned : (x : Float) → is_nan x ≡ true → negative x ≡ false
unfolding is_nan negative
unsigned nan e = refl
unsigned (inf s) e = absurd (false≢true e)
unsigned (fin s m e) h = absurd (false≢true h)

pub nan_pattern : (x : Float) → is_nan x ≡ true → to_bits binary64 x ≡ 0x7ff8000000000000
unfolding is_nan to_bits
nan_pattern nan e = refl
nan_pattern (inf s) e = absurd (false≢true e)
nan_pattern (fin s m e) h = absurd (false≢true h)
