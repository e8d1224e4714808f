-- The product of two floats, in units: a * b / 2 ^ low units, rounded once.
use mathlib.Core.Path.{◌≡◌}
use mathlib.Core.Bool.{Bool}
use Prim.Native.Nat.{ℕ, ◌*◌, ◌^◌, ◌≤◌, ◌<◌}
use native.Mathlib.Nat.{lt_of_le_of_lt, mul-pos, mul-le-mul_left, mul-mul-mul_comm}
use lib.Pow.{pow_pos}
use lib.Ieee.{Float, Format, prec, low, up, down, round, mul, unlike}
use lib.Ieee.Scale.{round_same, overflow}
use Rattle.float.proofs.Rounded.{rounded}
use Rattle.float.proofs.Monotone.{rounded_le}
use Rattle.float.proofs.Units.{HasUnits, prec_pos}
use Rattle.float.proofs.CommonUnits.{both_units}
use Rattle.float.proofs.Finite.{Finite}
use Rattle.float.proofs.RoundFinite.{round_finite}

pub mul_units : {f : Format} {x y : Float} {s t : Bool} {a b : ℕ} → HasUnits f x s a → HasUnits f y t b
    → mul f x y ≡ round f (unlike s t) (a * b) (2 ^ low f * 2 ^ low f)
unfolding mul
mul_units {f} {s = s} {t} {a} {b} v w =
    let u = 2 ^ low f in
    both_units (λ (x y : Float). mul f x y ≡ round f (unlike s t) (a * b) (u * u)) v w
    (λ m n e d h.
    round_same f (unlike s t) (m * up e * (n * up d)) (down e * down d) (a * b) (u * u)
    h.denominators_pos (mul-pos (pow_pos (low f)) (pow_pos (low f)))
    (rw (mul-mul-mul_comm (m * up e) (n * up d) u u, h.left, h.right) (mul-mul-mul_comm a (down e) b (down d))))

module _ {f : Format} {x y : Float} {s t : Bool} {a b : ℕ} (p : Finite f x s a) (q : Finite f y t b) where
  pub mul_finite : rounded (prec f) (a * b) (2 ^ low f) < overflow f
      → Finite f (mul f x y) (unlike s t) (rounded (prec f) (a * b) (2 ^ low f))
  mul_finite h = rw (mul_units p.units q.units) (round_finite f (unlike s t) (a * b) (pow_pos (low f)) h)

  -- with a factor of at most 1
  pub mul_shrink : b ≤ 2 ^ low f → Finite f (mul f x y) (unlike s t) (rounded (prec f) (a * b) (2 ^ low f))
  mul_shrink h = mul_finite
      (lt_of_le_of_lt (rounded_le (prec_pos f) (pow_pos (low f)) p.representable (mul-le-mul_left a h)) p.below_overflow)
