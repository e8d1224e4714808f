-- `round` gives a finite float where the rounded number of units is below the overflow.
use mathlib.Core.Bool.{Bool}
use Prim.Native.Nat.{ℕ, ◌*◌, ◌^◌, ◌≤◌, ◌<◌}
use native.Mathlib.Nat.{le_refl, lt_of_le_of_lt, one-mul}
use lib.Ieee.{Float, Format, prec, low, round}
use lib.Ieee.Fits.{round-fits}
use lib.Ieee.Scale.{overflow}
use Rattle.float.proofs.Rounded.{rounded, rounded_whole, rounded_representable}
use Rattle.float.proofs.Monotone.{whole_le}
use Rattle.float.proofs.Units.{prec_pos, round_units}
use Rattle.float.proofs.Finite.{Finite}

-- a fraction n / d of units
pub round_finite : (f : Format) (s : Bool) (n : ℕ) {d : ℕ} → 0 < d → rounded (prec f) n d < overflow f
    → Finite f (round f s n (d * 2 ^ low f)) s (rounded (prec f) n d)
round_finite f s n {d} D h = record {
  held = round-fits f s n (d * 2 ^ low f);
  units = round_units f s n D h;
  representable = rounded_representable n d (prec_pos f);
  below_overflow = h;
}

-- a whole number of units
pub round_whole : (f : Format) (s : Bool) (n : ℕ) → rounded_whole (prec f) n < overflow f
    → Finite f (round f s n (2 ^ low f)) s (rounded_whole (prec f) n)
round_whole f s n h = rw (one-mul (2 ^ low f)) at (round_finite f s n (le_refl 1) h)

-- one that is no larger than another finite float
pub round_whole_le : {f : Format} {y : Float} {t : Bool} {n b : ℕ} (s : Bool) → Finite f y t b → n ≤ b
    → Finite f (round f s n (2 ^ low f)) s (rounded_whole (prec f) n)
round_whole_le {f} {n = n} s q h = round_whole f s n (lt_of_le_of_lt (whole_le (prec_pos f) q.representable h) q.below_overflow)
