-- What `fits` says of a finite float m * 2 ^ e, and what it takes to fit.
use mathlib.Core.Path.{◌≡◌, refl}
use mathlib.Core.Bool.{Bool, ◌&&◌}
use Prim.Native.Nat.{ℕ, zero, suc, ◌*◌, ◌%◌, ◌^◌, ◌≤◌, ◌<◌}
use native.Mathlib.Nat.{mul-pos, pow-succ'}
use native.Mathlib.Omega.{arith}
use lib.IntN.{ℤ, pos, negsuc}
use lib.Dec.{T, leb, ltb, eqb, ltb→lt, lt→ltb, leb→le, le→leb, eqb→eq}
use lib.Pow.{pow_pos}
use lib.Ieee.{fin, Format, prec, emax, low, up, down, fits}
use lib.Ieee.Fits.{and_i, and_l, and_r, eq→eqb, down_pos}

-- m has at most prec digits, and m * 2 ^ e is a whole number of units and below 2 ^ (emax + 1)
pub record Fits (f : Format) (m : ℕ) (e : ℤ) : Type 0 where
  pub digits : m < 2 ^ prec f
  pub least : down e ≤ 2 ^ low f
  pub most : m * up e < 2 ^ suc (emax f) * down e

exponent_zero : (e : ℤ) → up e * down e ≡ 1 → e ≡ pos 0
exponent_zero (pos zero) h = refl
exponent_zero (pos (suc k)) h = absurd (omega (arith, rw pow-succ' at h))
exponent_zero (negsuc k) h = absurd (omega (arith, rw pow-succ' at h))

-- zero is written in one way
pub fits_zero : (f : Format) (s : Bool) (e : ℤ) → T (fits f (fin s zero e)) → e ≡ pos 0
unfolding fits
fits_zero f s e t = exponent_zero e (eqb→eq (up e * down e) 1 t)

-- any other number is written with an odd m
pub fits_odd : (f : Format) (s : Bool) (m : ℕ) (e : ℤ) → T (fits f (fin s (suc m) e)) → suc m % 2 ≡ 1
unfolding fits
fits_odd f s m e t = eqb→eq (suc m % 2) 1 (search (and_l, and_r))

pub fits_says : (f : Format) (s : Bool) (m : ℕ) (e : ℤ) → T (fits f (fin s m e)) → Fits f m e
unfolding fits
fits_says f s zero e t = rw (fits_zero f s e t) (record {
  digits = pow_pos (prec f);
  least = pow_pos (low f);
  most = mul-pos (pow_pos (suc (emax f))) (down_pos (pos 0));
})
fits_says f s (suc m) e t = record {
  digits = ltb→lt (suc m) (2 ^ prec f) (search (and_l, and_r));
  least = leb→le (down e) (2 ^ low f) (search (and_l, and_r));
  most = ltb→lt (suc m * up e) (2 ^ suc (emax f) * down e) (search (and_l, and_r));
}

pub fits_from : (f : Format) (s : Bool) (m : ℕ) (e : ℤ) → suc m % 2 ≡ 1 → Fits f (suc m) e → T (fits f (fin s (suc m) e))
unfolding fits
fits_from f s m e o h =
    let a = eqb (suc m % 2) 1 in
    let b = ltb (suc m) (2 ^ prec f) in
    let c = leb (down e) (2 ^ low f) in
    let d = ltb (suc m * up e) (2 ^ suc (emax f) * down e) in
    and_i (a && b && c) d
    (and_i (a && b) c (and_i a b (eq→eqb o) (lt→ltb (suc m) (2 ^ prec f) h.digits)) (le→leb (down e) (2 ^ low f) h.least))
    (lt→ltb (suc m * up e) (2 ^ suc (emax f) * down e) h.most)
