-- What the area of use gives at its edges: a table with a row for each case, and one theorem by computation. Edges stand in the order west, east, south, north.
use Rattle.std.specs.Prelude.{ℕ, suc, ◌≡◌, refl, List, [], ◌∷◌, map, Float, true, false, Some}
use Prim.Native.String.{String}
use Rattle.std.specs.Float.{nan, inf, binary64}
use Rattle.std.specs.Float.Ieee.{neg, to_bits}
use Rattle.float.specs.Operators.{◌⊗◌, f64}
use Rattle.float.specs.Constants.{+0, one, two, PI, FRAC_PI_2, ratio}
use Rattle.refusals.specs.Refusals.{number}
use Rattle.projection.specs.Bound.{LAT_BOUND}
use Rattle.projection.specs.AreaOfUse.{validate_area, validate_place}
use Rattle.projection.specs.Opened.{opened}
use Rattle.projection.specs.declared.Area.{Area}

-- a row: what the case is, the number that is worked out, the number that document 02 gives
pub record Row : Type 0 where
  pub label : String
  pub worked_out : ℕ
  pub says : ℕ

abbrev area : Float → Float → Float → Float → Area
area west east south north = record { west = west; east = east; south = south; north = north }

-- the number of a place at the latitude 1/2, in an area from -1 to 1 north
abbrev at : String → Float → Float → Float → ℕ → Row
at label west east lon says =
    record { label = label; worked_out = number (validate_place (Some (area west east (neg one) one)) lon (ratio 1 2)); says = says }

-- the number of four edges
abbrev edges : String → Float → Float → Float → Float → ℕ → Row
edges label west east south north says = record { label = label; worked_out = number (validate_area (area west east south north)); says = says }

-- the f64 above a positive one
abbrev above : Float → Float
above x = f64 (suc (to_bits binary64 x))

abbrev three : Float
three = ratio 3 1

abbrev TENTH : Float
TENTH = ratio 1 10

-- what normalising makes of 0.1: above it
abbrev TENTH_NORMALISED : Float
TENTH_NORMALISED = f64 0x3fb99999999999a0

abbrev pub table : List Row
table =
    at "an edge that normalising moves does not hold the place of the same longitude" (neg one) TENTH TENTH 26
    ∷ at "the same edge, normalised" (neg one) TENTH_NORMALISED TENTH 0
    ∷ at "an edge that normalising leaves alone" (neg one) (ratio 1 4) (ratio 1 4) 0
    ∷ at "one meridian" two two two 0
    ∷ at "beside one meridian" two two one 26
    ∷ at "an edge at -π does not hold π" (neg PI) (neg three) PI 26
    ∷ at "an edge at π does not hold -π" three PI (neg PI) 26
    ∷ at "from π to -π: π" PI (neg PI) PI 0
    ∷ at "from π to -π: -π" PI (neg PI) (neg PI) 0
    ∷ at "from π to -π: nothing between" PI (neg PI) three 26
    ∷ at "from -π to π: every longitude" (neg PI) PI three 0
    ∷ at "3π is π" three PI (three ⊗ PI) 0
    ∷ at "-3π is -π" (neg PI) (neg three) (neg (three ⊗ PI)) 0
    ∷ at "across the line, east of it" three (neg three) (neg (ratio 31 10)) 0
    ∷ at "across the line, on the wrong coast" three (neg three) two 26
    ∷ at "+0 above -0 does not cross" +0 (neg +0) one 26
    ∷ at "+0 above -0 holds both" +0 (neg +0) (neg +0) 0
    ∷ at "a west of NaN holds nothing" nan one +0 26
    ∷ at "an east of NaN holds nothing" (neg one) nan +0 26
    ∷ at "infinite edges are numbers" (inf true) (inf false) three 0
    ∷ at "infinite edges, turned round" (inf false) (inf true) three 26
    ∷ edges "the widest area" (neg PI) PI (neg LAT_BOUND) LAT_BOUND 0
    ∷ edges "a west beyond π" (neg (above PI)) PI +0 +0 25
    ∷ edges "an east beyond π" +0 (above PI) +0 +0 25
    ∷ edges "a south beyond the bound" +0 +0 (neg (above LAT_BOUND)) +0 25
    ∷ edges "a north beyond the bound" +0 +0 +0 (above LAT_BOUND) 25
    ∷ edges "a north beyond π/2, within the bound" +0 +0 +0 (above FRAC_PI_2) 0
    ∷ edges "south above north" +0 +0 one +0 25
    ∷ edges "south at north" +0 +0 +0 (neg +0) 0
    ∷ edges "west above east" one (neg one) +0 +0 0
    ∷ edges "a west of NaN" nan +0 +0 +0 25
    ∷ edges "an infinite east" +0 (inf false) +0 +0 25
    ∷ edges "a south of NaN" +0 +0 nan +0 25
    ∷ edges "an infinite north" +0 +0 +0 (inf false) 25
    ∷ []

pub cases : map (λ (r : Row). r.worked_out) table ≡ map (λ (r : Row). r.says) table
unfolding opened
cases = refl
