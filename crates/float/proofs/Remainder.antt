-- The remainder of two floats is the remainder of their units: it is exact.
use mathlib.Core.Path.{◌≡◌}
use mathlib.Core.Bool.{Bool}
use Prim.Native.Nat.{ℕ, ◌*◌, ◌%◌, ◌^◌, ◌<◌}
use native.Mathlib.Nat.{mod-le}
use native.Mathlib.Omega.{arith}
use lib.Pow.{pow_pos}
use lib.Ieee.{Float, Format, low, up, down, round, rem}
use lib.Ieee.Fits.{down_pos}
use lib.Ieee.Scale.{round_same}
use borrow.Author.Tests.{ne_eqb}
use Rattle.float.proofs.ExactRemainder.{exact_remainder}
use Rattle.float.proofs.RoundedExact.{whole_exact}
use Rattle.float.proofs.Units.{HasUnits}
use Rattle.float.proofs.CommonUnits.{both_units, nonzero, mod_common}
use Rattle.float.proofs.Finite.{Finite}
use Rattle.float.proofs.RoundFinite.{round_whole_le}

pub rem_units : {f : Format} {x y : Float} {s t : Bool} {a b : ℕ} → HasUnits f x s a → HasUnits f y t b → 0 < b
    → rem f x y ≡ round f s (a % b) (2 ^ low f)
unfolding rem
rem_units {f} {s = s} {t} {a} {b} v w B = both_units (λ (x y : Float). rem f x y ≡ round f s (a % b) (2 ^ low f)) v w
    (λ m n e d h.
    let N : 0 < n = nonzero n (up d) (2 ^ low f) b (down d) h.right B (down_pos d) in
    rw (ne_eqb n 0 (λ z. omega arith))
    (round_same f s (m * up e * down d % (n * up d * down e)) (down e * down d) (a % b) (2 ^ low f) h.denominators_pos (pow_pos (low f))
    (mod_common (m * up e * down d) (n * up d * down e) a b (pow_pos (low f)) h.denominators_pos h.left_cross h.right_cross)))

pub rem_finite : {f : Format} {x y : Float} {s t : Bool} {a b : ℕ} → Finite f x s a → Finite f y t b → 0 < b
    → Finite f (rem f x y) s (a % b)
rem_finite {s = s} {a = a} {b} p q B =
    rw (rem_units p.units q.units B)
    (rw (whole_exact (exact_remainder p.representable q.representable B)) at (round_whole_le s p (mod-le a b)))
