-- Document 02's Q-6 on clicks about the map's edge: a table with the number of each inverse, and one theorem by computation. Settings that a row does not name are 0.
use Rattle.std.specs.Prelude.{ℕ, suc, ◌^◌, ◌*◌, ◌≡◌, refl, List, [], ◌∷◌, map, Float, Option, Some, None}
use Prim.Native.String.{String}
use Rattle.std.specs.Float.{binary64}
use Rattle.std.specs.Float.Ieee.{neg, to_bits}
use Rattle.float.specs.Operators.{◌⊗◌, f64}
use Rattle.float.specs.Constants.{+0, half, one, two, FRAC_PI_2, ratio}
use Rattle.std.specs.Option.{option_map}
use Rattle.refusals.specs.Refusals.{number}
use Rattle.projection.specs.declared.Area.{Area}
use Rattle.lambert_azimuthal_equal_area.specs.LambertAzimuthalEqualArea.{EDGE}
use Rattle.equal_earth.specs.EqualEarth.{EDGE_Y}
use Rattle.letters.specs.declared.Kind.{Kind}
use Rattle.letters.specs.declared.Kind.TheVariants.{L, S, A, E, C, P, G}
use Rattle.kinds.specs.Kinds.{build, with_area, inverse, inverse_on_map}
use Rattle.kinds.specs.Opened.{opened}
use Rattle.kinds.specs.declared.Projection.{Projection}

-- a row: what it is about, the numbers of the first inverse and of the second, where there is one, and what 02 and 01 say of both
pub record Row : Type 0 where
  pub label : String
  pub first : ℕ
  pub second : Option ℕ
  pub says_first : ℕ
  pub says_second : Option ℕ

abbrev row : String → Projection → Float → Float → ℕ → Option ℕ → Row
row label p x y says_first says_second =
    record { label = label; first = number (inverse p x y); second = option_map number (inverse_on_map p x y); says_first = says_first; says_second = says_second }

-- a projection by a, f, lon0, lat0 and the false easting
abbrev map_of : Kind → Float → Float → Float → Float → Float → Projection
map_of kind a f lon0 lat0 fe = build kind a f (record { lon0 = lon0; lat0 = lat0; lat1 = half; lat2 = half; false_easting = fe; false_northing = +0 })

-- the next f64 away from 0
abbrev next : Float → Float
next x = f64 (suc (to_bits binary64 x))

abbrev WIDE : Float
WIDE = ratio (17 * 10 ^ 307) 1

abbrev BELOW_ONE : Float
BELOW_ONE = f64 0x3fefffffffffffff

abbrev nowhere : Area
nowhere = record { west = one; east = one; south = one; north = one }

abbrev pub table : List Row
table =
    row "S: at twice the edge" (map_of S one +0 +0 +0 +0) (two ⊗ EDGE) +0 0 (Some 0)
    ∷ row "S: the next f64" (map_of S one +0 +0 +0 +0) (next (two ⊗ EDGE)) +0 0 (Some 30)
    ∷ row "S: about a pole by the plain distance too" (map_of S one +0 +0 FRAC_PI_2 +0) (neg (next (two ⊗ EDGE))) +0 0 (Some 30)
    ∷ row "S: the centre rule comes first" (map_of S (ratio 1 (10 ^ 12)) +0 +0 +0 +0) (ratio 5 (10 ^ 10)) +0 0 (Some 0)
    ∷ row "L: by its own rho, east" (map_of L one (ratio 1 300) +0 half +0) (ratio 1999 1000) +0 0 (Some 0)
    ∷ row "L: by its own rho, north" (map_of L one (ratio 1 300) +0 half +0) +0 (ratio 1999 1000) 0 (Some 30)
    ∷ row "L: about the north pole, beyond the equator" (map_of L one +0 +0 FRAC_PI_2 +0) (ratio 3 2) +0 0 (Some 0)
    ∷ row "L: about the north pole, off the map" (map_of L one +0 +0 FRAC_PI_2 +0) (ratio 20001 10000) +0 0 (Some 30)
    ∷ row "L: about the south pole, off the map" (map_of L one +0 +0 (neg FRAC_PI_2) +0) +0 (ratio 20001 10000) 0 (Some 30)
    ∷ row "L: 2 rq is infinite, and the quotient NaN" (map_of L WIDE +0 +0 +0 +0) WIDE WIDE 23 (Some 23)
    ∷ row "E: at the northing's edge" (map_of E one +0 +0 +0 +0) +0 EDGE_Y 0 (Some 0)
    ∷ row "E: the next f64" (map_of E one +0 +0 +0 +0) +0 (next EDGE_Y) 0 (Some 30)
    ∷ row "E: in the southern frame" (map_of E one +0 +0 +0 +0) +0 (neg (next EDGE_Y)) 0 (Some 30)
    ∷ row "E: the longitude is judged before lon0 is added" (map_of E one +0 (ratio 3 1) +0 +0) two +0 0 (Some 0)
    ∷ row "E: in the eastern frame" (map_of E one +0 (neg (ratio 3 1)) +0 +0) (ratio 3 1) +0 0 (Some 30)
    ∷ row "E: infinity is above" (map_of E one +0 +0 +0 (neg WIDE)) WIDE +0 23 (Some 30)
    ∷ row "E: the rounds are used up" (map_of E one BELOW_ONE +0 +0 +0) (ratio 9 1) two 22 (Some 22)
    ∷ row "30 comes before 26" (with_area (map_of E one +0 +0 +0 +0) nowhere) (ratio 3 1) +0 26 (Some 30)
    ∷ row "and 26 where the click is on the map" (with_area (map_of E one +0 +0 +0 +0) nowhere) one +0 26 (Some 26)
    ∷ row "a refused projection answers by its number" (map_of C (neg one) +0 +0 +0 +0) one +0 4 (Some 4)
    ∷ row "Albers has none" (map_of A one +0 +0 +0 +0) one +0 0 None
    ∷ row "Cassini-Soldner has none" (map_of C one +0 +0 +0 +0) one +0 0 None
    ∷ row "polyconic has none" (map_of P one +0 +0 +0 +0) one +0 0 None
    ∷ row "Guam has none" (map_of G one (ratio 1 300) +0 +0 +0) half +0 0 None
    ∷ []

pub firsts : map (λ (r : Row). r.first) table ≡ map (λ (r : Row). r.says_first) table
unfolding opened
firsts = refl

pub seconds : map (λ (r : Row). r.second) table ≡ map (λ (r : Row). r.says_second) table
unfolding opened
seconds = refl
