-- The value of a finite float as a fraction a / c: any fraction of that value will do, and it says which float it is.
use mathlib.Core.Path.{◌≡◌, ◌∙◌}
use mathlib.Core.Bool.{Bool}
use Prim.Native.Nat.{ℕ, ◌*◌, ◌^◌, ◌<◌}
use native.Mathlib.Nat.{mul_right_comm, eq_of_mul-eq-mul_right}
use lib.Dec.{T}
use lib.Ieee.{Float, nan, inf, fin, Format, low, up, down, fits}
use lib.Ieee.Fits.{down_pos}
use lib.Ieee.Exact.{HasValue}
use lib.Ieee.Scale.{finite}
use Rattle.float.specs.Units.{unit_count}
use Rattle.float.proofs.Units.{HasUnits}
use Rattle.float.proofs.Finite.{finite_of, finite_with}
use Rattle.float.proofs.Unique.{finite_unique}

pub same_value : (x : Float) (s : Bool) (a c b d : ℕ) → 0 < c → a * d ≡ b * c → HasValue x s a c → HasValue x s b d
same_value nan s a c b d p h v = v
same_value (inf t) s a c b d p h v = v
same_value (fin t m e) s a c b d p h v = (
  v.0,
  eq_of_mul-eq-mul_right c p (m * up e * d) (b * down e)
      (mul_right_comm (m * up e) d c ∙ rw v.1 (mul_right_comm a (down e) d ∙ rw h (mul_right_comm b c (down e)))),
)

-- two fractions of one float
pub equal_fractions : (x : Float) (s t : Bool) (a c b d : ℕ) → HasValue x s a c → HasValue x t b d → a * d ≡ b * c
equal_fractions nan s t a c b d v w = absurd v
equal_fractions (inf r) s t a c b d v w = absurd v
equal_fractions (fin r m e) s t a c b d v w =
    eq_of_mul-eq-mul_right (down e) (down_pos e) (a * d) (b * c)
    (mul_right_comm a d (down e) ∙ rw (← v.1) (mul_right_comm (m * up e) c d ∙ rw w.1 (mul_right_comm b (down e) c)))

value_finite : (x : Float) (s : Bool) (a c : ℕ) → HasValue x s a c → T (finite x)
value_finite nan s a c v = v
value_finite (inf t) s a c v = v
value_finite (fin t m e) s a c v = tt

value_units : (f : Format) (x : Float) (s : Bool) (a c : ℕ) → 0 < c → HasValue x s a c → T (fits f x) → HasUnits f x s (unit_count f x)
value_units f x s a c C v held =
    let u = (finite_of f x held (value_finite x s a c v)).units.value in
    record { value = same_value x s a c (unit_count f x) (2 ^ low f) C (equal_fractions x s _ a c (unit_count f x) (2 ^ low f) v u) v }

pub value_unique : (f : Format) (x y : Float) (s : Bool) (a c b d : ℕ) → 0 < c → 0 < d → a * d ≡ b * c → HasValue x s a c → HasValue y s b d
    → T (fits f x) → T (fits f y) → x ≡ y
value_unique f x y s a c b d C D e v w p q =
    let u = value_units f x s a c C v p in
    let n = unit_count f x in
    let t : HasValue x s b d = same_value x s a c b d C e v in
    finite_unique (finite_with p u)
    (finite_with q (record { value = same_value y s b d n (2 ^ low f) D (equal_fractions x s s b d n (2 ^ low f) t u.value) w }))
