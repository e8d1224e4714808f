-- A finite float that fits its format: a sign and a number of units, which has at most prec digits and is below the overflow.
use mathlib.Core.Path.{refl}
use mathlib.Core.Bool.{Bool}
use Prim.Native.Nat.{ℕ, suc, ◌*◌, ◌^◌, ◌≤◌, ◌<◌}
use native.Mathlib.Nat.{mul_assoc, mul-lt-mul_of_pos_right, lt_of_mul-lt-mul_right}
use native.Mathlib.Omega.{arith}
use lib.IntN.{ℤ}
use lib.Dec.{T}
use lib.Pow.{pow-add, pow_pos}
use lib.Ieee.{Float, nan, inf, fin, Format, prec, emax, low, up, down, fits}
use lib.Ieee.Scale.{finite, overflow}
use Rattle.float.specs.Sign.{negative}
use Rattle.float.specs.Units.{unit_count}
use Rattle.float.proofs.Representable.{Representable, representable_zero}
use Rattle.float.proofs.Units.{HasUnits, units_finite, units_sign, units_count}
use Rattle.float.proofs.Fits.{Fits, fits_says}
use Rattle.float.proofs.Place.{place, place_value}

pub record Finite (f : Format) (x : Float) (s : Bool) (a : ℕ) : Type 0 where
  pub held : T (fits f x)
  pub units : HasUnits f x s a
  pub representable : Representable (prec f) a
  pub below_overflow : a < overflow f

-- the number of units, by the place of the last digit
place_units : (f : Format) (s : Bool) (m : ℕ) (e : ℤ) → down e ≤ 2 ^ low f → HasUnits f (fin s m e) s (m * 2 ^ place (low f) e)
place_units f s m e h = record { value = (refl, rw (mul_assoc m (up e) (2 ^ low f), place_value (low f) e h, ← mul_assoc)) }

place_below : (f : Format) (s : Bool) (m : ℕ) (e : ℤ) → Fits f m e → m * 2 ^ place (low f) e < overflow f
place_below f s m e h =
    let u = 2 ^ low f in
    let t = 2 ^ suc (emax f) in
    let l : m * up e * u < t * down e * u = mul-lt-mul_of_pos_right h.most (pow_pos (low f)) in
    rw (pow-add 2 (low f) (suc (emax f)))
    (lt_of_mul-lt-mul_right (down e) (regroup u t (rw (place_units f s m e h.least).value.1 at l)))
  where
    regroup : {x : ℕ} (u t : ℕ) → x < t * down e * u → x < u * t * down e
    regroup u t h = omega arith

-- every finite float that fits is one
pub finite_of : (f : Format) (x : Float) → T (fits f x) → T (finite x) → Finite f x (negative x) (unit_count f x)
unfolding negative
finite_of f nan t u = absurd u
finite_of f (inf s) t u = absurd u
finite_of f (fin s m e) t u =
    let h = fits_says f s m e t in
    let v = place_units f s m e h.least in
    rw (units_count v) (record {
      held = t;
      units = v;
      representable = record { significand = m; exponent = place (low f) e; digits = h.digits; exact = refl };
      below_overflow = place_below f s m e h;
    })

-- so a float that fits is one with the sign and the number of units that it has
pub finite_with : {f : Format} {x : Float} {s : Bool} {a : ℕ} → T (fits f x) → HasUnits f x s a → Finite f x s a
finite_with {f} {x} t v = rw (units_sign v, units_count v) at (finite_of f x t (units_finite v))

-- the number of units of any float that fits has at most prec digits
pub count_representable : (f : Format) (x : Float) → T (fits f x) → Representable (prec f) (unit_count f x)
unfolding unit_count
count_representable f nan t = representable_zero
count_representable f (inf s) t = representable_zero
count_representable f (fin s m e) t = (finite_of f (fin s m e) t tt).representable
