-- Document 01's cases M1 to M13: a table with a row for each, and one theorem by computation. Settings that a case does not name are 0, and a is 1.
use Rattle.std.specs.Prelude.{ℕ, suc, ◌^◌, ◌≡◌, refl, List, [], ◌∷◌, map, Float}
use Prim.Native.String.{String}
use Rattle.std.specs.Float.{binary64}
use Rattle.std.specs.Float.Ieee.{neg, to_bits}
use Rattle.float.specs.Operators.{◌⊖◌, f64}
use Rattle.float.specs.Constants.{+0, one, two, four, PI, FRAC_PI_2, LO, ratio}
use Rattle.root.specs.Root.{root}
use Rattle.trigonometry.specs.Trigonometry.{cosine}
use Rattle.ellipsoid.specs.Ellipsoid.{from_a_rf, from_a_f}
use Rattle.projection.specs.Bound.{LAT_BOUND}
use Rattle.projection.specs.Longitude.{normalize_longitude}
use Rattle.refusals.specs.Refusals.{number}
use Rattle.letters.specs.declared.Kind.{Kind}
use Rattle.letters.specs.declared.Kind.TheVariants.{L, S, C, P}
use Rattle.letters.specs.declared.Way.{Way}
use Rattle.letters.specs.declared.Way.TheVariants.{Forward, Inverse}
use Rattle.kinds.specs.Kinds.{project}
use Rattle.kinds.specs.Opened.{opened}

-- what a case is about: an f64, or a refusal number
pub data Outcome : Type 0 where
  value : Float → Outcome
  refusal : ℕ → Outcome

-- a row: 01's label, what is worked out, what 01 says
pub record Row : Type 0 where
  pub label : String
  pub worked_out : Outcome
  pub says : Outcome

-- the number of a point of a kind on the flattening f, with the origin's latitude lat0
abbrev point : Way → Kind → Float → Float → Float → Float → Outcome
point way kind f lat0 u v =
    refusal (number (project way kind one f (record { lon0 = +0; lat0 = lat0; lat1 = +0; lat2 = +0; false_easting = +0; false_northing = +0 }) u v))

-- 1 - 2^-53, the f64 below 1
abbrev BELOW_ONE : Float
BELOW_ONE = f64 0x3fefffffffffffff

-- the f64 above the bound on latitudes
abbrev ABOVE_BOUND : Float
ABOVE_BOUND = f64 0x3ff921fb54443eb1

pub constants : (BELOW_ONE ∷ f64 (suc (to_bits binary64 LAT_BOUND)) ∷ []) ≡ (one ⊖ ratio 1 (2 ^ 53) ∷ ABOVE_BOUND ∷ [])
unfolding opened
constants = refl

abbrev row : String → Outcome → Outcome → Row
row label worked_out says = record { label = label; worked_out = worked_out; says = says }

abbrev pub table : List Row
table =
    row "M1: normalise PI" (value (normalize_longitude PI)) (value PI)
    ∷ row "M2: normalise -PI" (value (normalize_longitude (neg PI))) (value (neg PI))
    ∷ row "M3: normalise -0" (value (normalize_longitude (neg +0))) (value +0)
    ∷ row "M4: root of 4" (value (root four)) (value two)
    ∷ row "M5: root of -0" (value (root (neg +0))) (value (neg +0))
    ∷ row "M6: cosine of FRAC_PI_2" (value (cosine FRAC_PI_2)) (value LO)
    ∷ row "M7: 1/f = 1" (refusal (number (from_a_rf one one))) (refusal 3)
    ∷ row "M8: f = 1" (refusal (number (from_a_f one one))) (refusal 5)
    ∷ row "M9: Lambert, f = 1 - 2^-53" (point Forward L BELOW_ONE +0 +0 +0) (refusal 12)
    ∷ row "M10: Lambert, f = 0, lat0 at the bound" (point Forward L +0 LAT_BOUND +0 +0) (refusal 13)
    ∷ row "M10: the next f64 above" (point Forward L +0 ABOVE_BOUND +0 +0) (refusal 8)
    ∷ row "M11: S, f = 0, lat0 = 0, forward (PI, 0)" (point Forward S +0 +0 PI +0) (refusal 18)
    ∷ row "M12: polyconic, f = 1/300, lat0 = 0, inverse (0, FRAC_PI_2)" (point Inverse P (ratio 1 300) +0 +0 FRAC_PI_2) (refusal 21)
    ∷ row "M13: Cassini, f = 0, lat0 = 0, inverse (0, 2)" (point Inverse C +0 +0 +0 two) (refusal 24)
    ∷ []

pub cases : map (λ (r : Row). r.worked_out) table ≡ map (λ (r : Row). r.says) table
unfolding opened
cases = refl
