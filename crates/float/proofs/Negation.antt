-- The opposite of a float has the other sign and as many units.
use mathlib.Core.Path.{ap}
use mathlib.Core.Bool.{Bool, not}
use Prim.Native.Nat.{ℕ, ◌^◌}
use lib.Ieee.{Float, nan, inf, fin, Format, low, neg}
use lib.Ieee.Fits.{neg-fits}
use lib.Ieee.Exact.{HasValue}
use Rattle.float.proofs.Units.{HasUnits}
use Rattle.float.proofs.Finite.{Finite}

pub neg_units : {f : Format} {x : Float} {s : Bool} {a : ℕ} → HasUnits f x s a → HasUnits f (neg x) (not s) a
unfolding neg
neg_units {f} {x} {s} {a} v = record { value = go x v.value }
  where
    go : (x : Float) → HasValue x s a (2 ^ low f) → HasValue (neg x) (not s) a (2 ^ low f)
    go nan v = v
    go (inf t) v = v
    go (fin t m e) v = (ap not v.0, v.1)

pub neg_finite : {f : Format} {x : Float} {s : Bool} {a : ℕ} → Finite f x s a → Finite f (neg x) (not s) a
neg_finite {f} {x} p = record {
  held = neg-fits f x p.held;
  units = neg_units p.units;
  representable = p.representable;
  below_overflow = p.below_overflow;
}
