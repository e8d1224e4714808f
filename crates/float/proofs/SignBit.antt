-- The sign bit is the top bit of the pattern, and the rest of the pattern is the size's.
use mathlib.Core.Path.{◌≡◌, refl, ◌∙◌, ap}
use mathlib.Core.Bool.{Bool, true, false, not}
use Prim.Native.Nat.{ℕ, zero, suc, ◌%◌, ◌<◌}
use native.Mathlib.Nat.{mod-eq_of_lt}
use native.Mathlib.Omega.{arith}
use borrow.Author.Tests.{le-leb, lt-leb}
use lib.IntN.{ℤ}
use lib.Dec.{T, leb}
use lib.Ieee.{Float, nan, inf, fin, binary64, fits, is_nan, nan_bits, neg, of_bits, to_bits, top}
use lib.Ieee.Bits.{nan_bits_is, of_bits-to_bits, to_bits-lt}
use Rattle.float.specs.Sign.{negative, abs}

-- the sign has no part in whether a value fits
pub fits_sign : (s t : Bool) (m : ℕ) (e : ℤ) → T (fits binary64 (fin s m e)) → T (fits binary64 (fin t m e))
unfolding fits
fits_sign s t zero e h = h
fits_sign s t (suc m) e h = h

low_half : (s : Bool) (m : ℕ) (e : ℤ) → T (fits binary64 (fin s m e)) → to_bits binary64 (fin false m e) < top binary64
unfolding to_bits
low_half s m e h = omega (arith, to_bits-lt binary64 (fin true m e) (fits_sign s true m e h))

pub top_bit : (x : Float) → T (fits binary64 x) → leb (top binary64) (to_bits binary64 x) ≡ negative x
unfolding negative to_bits
top_bit nan h = refl
top_bit (inf true) h = refl
top_bit (inf false) h = refl
top_bit (fin true m e) h = le-leb (top binary64) (to_bits binary64 (fin true m e)) (omega arith)
top_bit (fin false m e) h = lt-leb (top binary64) (to_bits binary64 (fin false m e)) (low_half false m e h)

-- a NaN's pattern is no exception: it is written without a sign
pub size_bits : (x : Float) → T (fits binary64 x) → of_bits binary64 (to_bits binary64 x % top binary64) ≡ abs x
unfolding negative abs to_bits neg fits
size_bits nan h = of_bits-to_bits binary64 nan tt
size_bits (inf true) h = of_bits-to_bits binary64 (inf false) tt
size_bits (inf false) h = of_bits-to_bits binary64 (inf false) tt
size_bits (fin true m e) h =
    let r : to_bits binary64 (fin true m e) % top binary64 ≡ to_bits binary64 (fin false m e) = omega (arith, low_half true m e h) in
    ap (of_bits binary64) r ∙ of_bits-to_bits binary64 (fin false m e) (fits_sign true false m e h)
size_bits (fin false m e) h = ap (of_bits binary64) (mod-eq_of_lt (low_half false m e h)) ∙ of_bits-to_bits binary64 (fin false m e) h

number_abs : (x : Float) → T (not (is_nan x)) → T (not (is_nan (abs x)))
unfolding abs negative neg is_nan
number_abs nan n = n
number_abs (inf true) n = n
number_abs (inf false) n = n
number_abs (fin true m e) n = n
number_abs (fin false m e) n = n

pub size_number : (x : Float) → T (fits binary64 x) → T (not (is_nan x)) → T (not (nan_bits binary64 (to_bits binary64 x % top binary64)))
size_number x h n = rw (nan_bits_is, size_bits x h) (number_abs x n)
