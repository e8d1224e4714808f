-- Which patterns and which values are the NaN.
use mathlib.Core.Path.{◌≡◌, refl, sym, ◌∙◌}
use mathlib.Core.Bool.{true, not, false≢true}
use Prim.Native.Nat.{ℕ, ◌%◌, ◌*◌, ◌<◌, ◌≤◌}
use borrow.Author.Tests.{lt-ltb, le-ltb}
use lib.Dec.{T}
use lib.Ieee.{Float, nan, inf, fin, binary64, is_nan, nan_bits, of_bits, ones, hid, top}
use lib.Ieee.Bits.{nan_bits_is, nan_bits_above}

pub is_the_nan : (x : Float) → is_nan x ≡ true → x ≡ nan
unfolding is_nan
is_the_nan nan e = refl
is_the_nan (inf s) e = absurd (false≢true e)
is_the_nan (fin s m e) h = absurd (false≢true h)

-- a pattern above infinity's, its sign taken off, is read as the NaN
pub pattern_of_nan : (n : ℕ) → ones binary64 * hid binary64 < n % top binary64 → of_bits binary64 n ≡ nan
pattern_of_nan n h = is_the_nan (of_bits binary64 n) (sym (nan_bits_is binary64 n) ∙ nan_bits_above binary64 n ∙ lt-ltb _ _ h)

pub pattern_of_number : (n : ℕ) → n % top binary64 ≤ ones binary64 * hid binary64 → T (not (nan_bits binary64 n))
pattern_of_number n h = rw (nan_bits_above binary64 n, le-ltb (ones binary64 * hid binary64) (n % top binary64) h) tt
