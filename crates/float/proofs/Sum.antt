-- The sum and the difference of two floats, in units: rounded once, and finite where the rounded number does not overflow.
use mathlib.Core.Path.{◌≡◌, refl}
use mathlib.Core.Bool.{Bool, true, false, not, ◌&&◌}
use Prim.Native.Nat.{ℕ, ◌+◌, ◌-◌, ◌*◌, ◌^◌, ◌≤◌, ◌<◌}
use native.Mathlib.Nat.{sub-le}
use lib.Dec.{ltb}
use lib.Pow.{pow_pos}
use lib.Ieee.{Float, Format, prec, low, up, down, round, sum, add, sub}
use lib.Ieee.Scale.{round_same, overflow}
use borrow.Author.Tests.{lt-ltb, le-ltb}
use Rattle.float.proofs.Rounded.{rounded_whole}
use Rattle.float.proofs.Units.{HasUnits}
use Rattle.float.proofs.CommonUnits.{ltb_common, add_common, sub_common, both_units}
use Rattle.float.proofs.Finite.{Finite}
use Rattle.float.proofs.RoundFinite.{round_whole, round_whole_le}
use Rattle.float.proofs.Negation.{neg_finite}

-- only the values of the two fractions count
sum_common : (f : Format) (s t : Bool) (x y a b : ℕ) {c w : ℕ} → 0 < c → 0 < w → x * c ≡ a * w → y * c ≡ b * w
    → sum f s x t y w ≡ sum f s a t b c
unfolding sum
sum_common f s t x y a b {c} {w} C W p q = rw (
  ltb_common x y a b C W p q,
  ltb_common y x b a C W q p,
  round_same f s (x + y) w (a + b) c W C (add_common x y a b C W p q),
  round_same f t (y - x) w (b - a) c W C (sub_common y x b a C W q p),
  round_same f (s && ltb b a) (x - y) w (a - b) c W C (sub_common x y a b C W p q),
)

pub add_units : {f : Format} {x y : Float} {s t : Bool} {a b : ℕ} → HasUnits f x s a → HasUnits f y t b
    → add f x y ≡ sum f s a t b (2 ^ low f)
unfolding add
add_units {f} {s = s} {t} {a} {b} v w = both_units (λ (x y : Float). add f x y ≡ sum f s a t b (2 ^ low f)) v w
    (λ m n e d h.
    sum_common f s t (m * up e * down d) (n * up d * down e) a b (pow_pos (low f)) h.denominators_pos h.left_cross h.right_cross)

-- ---- `sum` of two numbers of one sign, and of two of opposite signs by which is larger
sum_alike : (f : Format) (s : Bool) (a b c : ℕ) → sum f s a s b c ≡ round f s (a + b) c
unfolding sum
sum_alike f true a b c = refl
sum_alike f false a b c = refl

sum_less : (f : Format) (s : Bool) {a b : ℕ} (c : ℕ) → a < b → sum f s a (not s) b c ≡ round f (not s) (b - a) c
unfolding sum
sum_less f true {a} {b} c h = rw (lt-ltb a b h)
sum_less f false {a} {b} c h = rw (lt-ltb a b h)

sum_ge : (f : Format) (s : Bool) {a b : ℕ} (c : ℕ) → b ≤ a → sum f s a (not s) b c ≡ round f (s && ltb b a) (a - b) c
unfolding sum
sum_ge f true {a} {b} c h = rw (le-ltb a b h)
sum_ge f false {a} {b} c h = rw (le-ltb a b h)

module _ {f : Format} {x y : Float} {s : Bool} {a b : ℕ} (p : Finite f x s a) where
  -- the sum of two of one sign
  pub add_alike : Finite f y s b → rounded_whole (prec f) (a + b) < overflow f
      → Finite f (add f x y) s (rounded_whole (prec f) (a + b))
  add_alike q h = rw (add_units p.units q.units, sum_alike f s a b (2 ^ low f)) (round_whole f s (a + b) h)

  -- the sum of two of opposite signs has the sign of the larger, and 0 is +0
  pub add_unlike_less : Finite f y (not s) b → a < b → Finite f (add f x y) (not s) (rounded_whole (prec f) (b - a))
  add_unlike_less q h = rw (add_units p.units q.units, sum_less f s (2 ^ low f) h) (round_whole_le (not s) q (sub-le b a))

  pub add_unlike_ge : Finite f y (not s) b → b ≤ a → Finite f (add f x y) (s && ltb b a) (rounded_whole (prec f) (a - b))
  add_unlike_ge q h = rw (add_units p.units q.units, sum_ge f s (2 ^ low f) h) (round_whole_le (s && ltb b a) p (sub-le a b))

-- ---- the difference is the sum with the opposite
module _ {f : Format} {x y : Float} {s : Bool} {a b : ℕ} where
  pub sub_less : Finite f x s a → Finite f y s b → a < b → Finite f (sub f x y) (not s) (rounded_whole (prec f) (b - a))
  unfolding sub
  sub_less p q h = add_unlike_less p (neg_finite q) h

  pub sub_ge : Finite f x s a → Finite f y s b → b ≤ a → Finite f (sub f x y) (s && ltb b a) (rounded_whole (prec f) (a - b))
  unfolding sub
  sub_ge p q h = add_unlike_ge p (neg_finite q) h

  pub sub_unlike : Finite f x (not s) a → Finite f y s b → rounded_whole (prec f) (a + b) < overflow f
      → Finite f (sub f x y) (not s) (rounded_whole (prec f) (a + b))
  unfolding sub
  sub_unlike p q h = add_alike p (neg_finite q) h
