-- A sign and a number of units say which float it is.
use mathlib.Core.Path.{◌≡◌, refl, sym, ap, ◌∙◌}
use mathlib.Core.Bool.{Bool}
use Prim.Native.Nat.{ℕ, zero, suc, ◌*◌, ◌%◌, ◌^◌}
use native.Mathlib.Nat.{zero-lt-suc, zero-mul, mul_assoc, mul-pos, pow-succ', eq_of_mul-eq-mul_right}
use native.Mathlib.Omega.{arith}
use lib.IntN.{ℤ}
use lib.Dec.{T}
use lib.Pow.{pow_pos}
use lib.Ieee.{Float, nan, inf, fin, Format, low, up, down, fits}
use lib.Ieee.Fits.{down_pos}
use lib.Ieee.Exact.{HasValue}
use Rattle.float.proofs.Fits.{fits_zero, fits_odd, fits_says}
use Rattle.float.proofs.Place.{place, place_value, place_injective}
use Rattle.float.proofs.Finite.{Finite}

-- an odd number times a power of two
odd_pow : (m n i j : ℕ) → m % 2 ≡ 1 → n % 2 ≡ 1 → m * 2 ^ i ≡ n * 2 ^ j → (m ≡ n) × (i ≡ j)
odd_pow m n zero zero o p h = omega arith
odd_pow m n zero (suc j) o p h = absurd (omega (arith, rw (pow-succ' 2 j) at h))
odd_pow m n (suc i) zero o p h = absurd (omega (arith, rw (pow-succ' 2 i) at h))
odd_pow m n (suc i) (suc j) o p h =
    let e : m * (2 * 2 ^ i) ≡ n * (2 * 2 ^ j) = rw (pow-succ' 2 i, pow-succ' 2 j) at h in
    let r = odd_pow m n i j o p (omega arith) in
    (r.0, ap suc r.1)

-- of two floats that fit, as many units mean the same m and the same e
same_digits : (f : Format) (s t : Bool) (m n : ℕ) (e d : ℤ) → T (fits f (fin s m e)) → T (fits f (fin t n d))
    → m * 2 ^ place (low f) e ≡ n * 2 ^ place (low f) d → (m ≡ n) × (e ≡ d)
same_digits f s t zero zero e d p q h = (refl, fits_zero f s e p ∙ sym (fits_zero f t d q))
same_digits f s t zero (suc n) e d p q h =
    absurd (omega (arith, h, zero-mul (2 ^ place (low f) e), mul-pos (zero-lt-suc n) (pow_pos (place (low f) d))))
same_digits f s t (suc m) zero e d p q h =
    absurd (omega (arith, h, zero-mul (2 ^ place (low f) d), mul-pos (zero-lt-suc m) (pow_pos (place (low f) e))))
same_digits f s t (suc m) (suc n) e d p q h =
    let r = odd_pow (suc m) (suc n) (place (low f) e) (place (low f) d) (fits_odd f s m e p) (fits_odd f t n d q) h in
    (r.0, place_injective (low f) e d (fits_says f s (suc m) e p).least (fits_says f t (suc n) d q).least r.1)

-- a float of a units is m * 2 ^ place of them
at_place : (f : Format) (s : Bool) (m : ℕ) (e : ℤ) (a : ℕ) → T (fits f (fin s m e)) → m * up e * 2 ^ low f ≡ a * down e
    → m * 2 ^ place (low f) e ≡ a
at_place f s m e a t h =
    eq_of_mul-eq-mul_right (down e) (down_pos e) (m * 2 ^ place (low f) e) a
    (rw (mul_assoc m (2 ^ place (low f) e), ← place_value (low f) e (fits_says f s m e t).least, ← mul_assoc) h)

pub finite_unique : {f : Format} {x y : Float} {s : Bool} {a : ℕ} → Finite f x s a → Finite f y s a → x ≡ y
finite_unique {f} {x} {y} {s} {a} p q = go x y p.held q.held p.units.value q.units.value
  where
    go : (x y : Float) → T (fits f x) → T (fits f y) → HasValue x s a (2 ^ low f) → HasValue y s a (2 ^ low f) → x ≡ y
    go nan y p q v w = absurd v
    go (inf t) y p q v w = absurd v
    go (fin t m e) nan p q v w = absurd w
    go (fin t m e) (inf u) p q v w = absurd w
    go (fin t m e) (fin u n d) p q v w =
        let r = same_digits f t u m n e d p q (at_place f t m e a p v.1 ∙ sym (at_place f u n d a q w.1)) in
        cc (v.0, w.0, r.0, r.1)
