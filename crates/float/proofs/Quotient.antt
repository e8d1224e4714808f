-- The quotient of two floats, in units: a * 2 ^ low / b units, rounded once.
use mathlib.Core.Path.{◌≡◌, ◌∙◌}
use mathlib.Core.Bool.{Bool}
use Prim.Native.Nat.{ℕ, ◌*◌, ◌^◌, ◌<◌}
use native.Mathlib.Nat.{mul-pos, mul_comm, mul-mul-mul_comm}
use native.Mathlib.Omega.{arith}
use lib.Pow.{pow_pos}
use lib.Ieee.{Float, Format, prec, low, up, down, round, div, unlike}
use lib.Ieee.Fits.{up_pos, down_pos}
use lib.Ieee.Scale.{round_same, overflow}
use borrow.Author.Tests.{ne_eqb}
use Rattle.float.proofs.Rounded.{rounded}
use Rattle.float.proofs.Units.{HasUnits}
use Rattle.float.proofs.CommonUnits.{both_units, nonzero}
use Rattle.float.proofs.Finite.{Finite}
use Rattle.float.proofs.RoundFinite.{round_finite}

pub div_units : {f : Format} {x y : Float} {s t : Bool} {a b : ℕ} → HasUnits f x s a → HasUnits f y t b → 0 < b
    → div f x y ≡ round f (unlike s t) (a * 2 ^ low f) (b * 2 ^ low f)
unfolding div
div_units {f} {s = s} {t} {a} {b} v w B =
    let u = 2 ^ low f in
    both_units (λ (x y : Float). div f x y ≡ round f (unlike s t) (a * u) (b * u)) v w
    (λ m n e d h.
    let N : 0 < n = nonzero n (up d) u b (down d) h.right B (down_pos d) in
    rw (ne_eqb n 0 (λ z. omega arith))
    (round_same f (unlike s t) (m * up e * down d) (n * up d * down e) (a * u) (b * u)
    (mul-pos (mul-pos N (up_pos d)) (down_pos e)) (mul-pos B (pow_pos (low f)))
    (crossed (m * up e) (down e) (n * up d) (down d) u h.left h.right)))
  where
    crossed : (x v y w u : ℕ) → x * u ≡ a * v → y * u ≡ b * w → x * w * (b * u) ≡ a * u * (y * v)
    crossed x v y w u p q =
        rw (mul_comm b u, mul-mul-mul_comm x w u b, p, mul_comm w b, ← q, mul_comm y u) (mul-mul-mul_comm a v u y ∙ rw (mul_comm v y))

pub div_finite : {f : Format} {x y : Float} {s t : Bool} {a b : ℕ} → Finite f x s a → Finite f y t b → 0 < b
    → rounded (prec f) (a * 2 ^ low f) b < overflow f → Finite f (div f x y) (unlike s t) (rounded (prec f) (a * 2 ^ low f) b)
div_finite {f} {s = s} {t} {a} p q B h = rw (div_units p.units q.units B) (round_finite f (unlike s t) (a * 2 ^ low f) B h)
