-- A finite float as a sign and a whole number of units, its format's smallest value above 0: 2 ^ -1074 for f64.
use mathlib.Core.Path.{◌≡◌}
use mathlib.Core.Bool.{Bool}
use Prim.Native.Nat.{ℕ, ◌*◌, ◌^◌, ◌<◌}
use native.Mathlib.Nat.{mul-pos, mul-div_cancel}
use native.Mathlib.Omega.{arith}
use lib.Dec.{T}
use lib.Pow.{pow_pos}
use lib.Ieee.{Float, nan, inf, fin, Format, prec, low, round}
use lib.Ieee.Fits.{two, two-le_pos, down_pos, round_is}
use lib.Ieee.Exact.{HasValue, units_val}
use lib.Ieee.Order.{drop, kept}
use lib.Ieee.Scale.{finite, overflow}
use Rattle.float.specs.Sign.{negative}
use Rattle.float.specs.Units.{unit_count}
use Rattle.float.proofs.Rounded.{rounded}
use Rattle.float.proofs.Monotone.{rounded_same}

-- x is finite, has the sign s, and is a units in size
pub record HasUnits (f : Format) (x : Float) (s : Bool) (a : ℕ) : Type 0 where
  pub value : HasValue x s a (2 ^ low f)

pub prec_pos : (f : Format) → 0 < prec f
prec_pos f = two-le_pos (prec f) (two f)

-- `round` of a fraction n / d of units
pub round_units : (f : Format) (s : Bool) (n : ℕ) {d : ℕ} → 0 < d → rounded (prec f) n d < overflow f
    → HasUnits f (round f s n (d * 2 ^ low f)) s (rounded (prec f) n d)
unfolding rounded
round_units f s n {d} D h =
    let u = 2 ^ low f in
    let e : rounded (prec f) (n * u) (d * u) ≡ rounded (prec f) n d =
    rounded_same (n * u) n (prec_pos f) (mul-pos D (pow_pos (low f))) D (regroup n u d) in
    rw (← e, round_is f s n (d * u))
    (record { value = units_val f s (kept (prec f) (n * u) (d * u)) (drop (prec f) (n * u) (d * u)) (rw e h) })
  where
    regroup : (n u d : ℕ) → n * u * d ≡ n * (d * u)
    regroup n u d = omega arith

-- ---- the sign and the number of units are those of the definitions
module _ {f : Format} {x : Float} {s : Bool} {a : ℕ} (v : HasUnits f x s a) where
  says : T (finite x) × (negative x ≡ s) × (unit_count f x ≡ a)
  unfolding negative unit_count
  says = go x v.value
    where
      go : (x : Float) → HasValue x s a (2 ^ low f) → T (finite x) × (negative x ≡ s) × (unit_count f x ≡ a)
      go nan v = absurd v
      go (inf t) v = absurd v
      go (fin t m e) v = (tt, v.0, rw v.1 (mul-div_cancel a (down_pos e)))

  pub units_finite : T (finite x)
  units_finite = says.0

  pub units_sign : negative x ≡ s
  units_sign = says.1

  pub units_count : unit_count f x ≡ a
  units_count = says.2
