-- The projection that 36 numbers hold, whatever they are: a mark, the numbers of the kind, from place 18 on the 13 meridian numbers, and from place 31 on
-- the area of use.
use Rattle.std.specs.Prelude.{ℕ, zero, suc, ◌+◌, cond, List, [], ◌∷◌, eqb, ltb, get_or, unwrap_or, Float, Option, Some, None, Result, Ok, Err}
use Prim.Native.Char.{code}
use Rattle.std.specs.Float.{nan, binary64}
use Rattle.std.specs.Float.Ieee.{to_bits}
use Rattle.float.specs.Operators.{◌≈◌}
use Rattle.float.specs.Constants.{one, two}
use Rattle.refusals.specs.Refusals.{from_number}
use Rattle.refusals.specs.declared.Refusal.{Refusal}
use Rattle.refusals.specs.declared.Refusal.TheVariants.{LineForm}
use Rattle.lambert_azimuthal_equal_area.specs.declared.Aspect.{Aspect}
use Rattle.lambert_azimuthal_equal_area.specs.declared.Aspect.TheVariants.{Oblique, NorthPolar, SouthPolar}
use Rattle.lambert_azimuthal_equal_area.specs.declared.LambertAzimuthalEqualArea.{LambertAzimuthalEqualArea}
use Rattle.albers_equal_area.specs.declared.AlbersEqualArea.{AlbersEqualArea}
use Rattle.equal_earth.specs.declared.EqualEarth.{EqualEarth}
use Rattle.cassini_soldner.specs.declared.CassiniSoldner.{CassiniSoldner}
use Rattle.american_polyconic.specs.declared.AmericanPolyconic.{AmericanPolyconic}
use Rattle.guam_projection.specs.declared.GuamProjection.{GuamProjection}
use Rattle.projection.specs.declared.Area.{Area}
use Rattle.kinds.specs.declared.Built.{Built}
use Rattle.kinds.specs.declared.Built.TheVariants.{Lambert, Albers, Equal, Cassini, Polyconic, Guam}
use Rattle.kinds.specs.declared.Projection.{Projection}

-- the number at a place
abbrev pub at : List Float → ℕ → Float
at l i = get_or l i nan

-- so many numbers from a place on
unfoldable pub from : List Float → ℕ → ℕ → List Float
from l i zero = []
from l i (suc n) = at l i ∷ from l (suc i) n

-- ---- the numbers of a kind

-- 1 is the north polar aspect, 2 the south polar, any other the oblique
unfoldable pub aspect_of : Float → Aspect
aspect_of x = cond (x ≈ one) NorthPolar (cond (x ≈ two) SouthPolar Oblique)

unfoldable pub lambert_of : List Float → LambertAzimuthalEqualArea
unfolding aspect_of
lambert_of l =
    record {
      a = at l 1;
      e2 = at l 2;
      spherical = at l 3 ≈ one;
      spherical_radius = at l 4;
      lon0 = at l 5;
      lat0 = at l 6;
      q_p = at l 7;
      rq = at l 8;
      sin_lat0 = at l 9;
      cos_lat0 = at l 10;
      sin_beta0 = at l 11;
      cos_beta0 = at l 12;
      d = at l 13;
      false_easting = at l 14;
      false_northing = at l 15;
      aspect = aspect_of (at l 16);
    }

unfoldable pub albers_of : List Float → AlbersEqualArea
albers_of l =
    record {
      a = at l 1;
      e = at l 2;
      e2 = at l 3;
      lon0 = at l 4;
      n = at l 5;
      c = at l 6;
      rho0 = at l 7;
      false_easting = at l 8;
      false_northing = at l 9;
    }

unfoldable pub equal_earth_of : List Float → EqualEarth
equal_earth_of l =
    record {
      a = at l 1;
      e2 = at l 2;
      lon0 = at l 3;
      false_easting = at l 4;
      false_northing = at l 5;
      q_p = at l 6;
      rqda = at l 7;
    }

unfoldable pub cassini_of : List Float → CassiniSoldner
cassini_of l =
    record {
      a = at l 1;
      e2 = at l 2;
      ep2 = at l 3;
      a_one_minus_e2 = at l 4;
      lon0 = at l 5;
      false_easting = at l 6;
      false_northing = at l 7;
      m0 = at l 8;
      arc = record { coeff0 = at l 9; coeff2 = at l 10; coeff4 = at l 11; coeff6 = at l 12 };
      mu_denom = at l 13;
      back = record { coeff2 = at l 14; coeff4 = at l 15; coeff6 = at l 16; coeff8 = at l 17 };
    }

unfoldable pub polyconic_of : List Float → AmericanPolyconic
polyconic_of l =
    record { a = at l 1; e2 = at l 2; lon0 = at l 3; lat0 = at l 4; false_easting = at l 5; false_northing = at l 6; ml0 = at l 7 }

unfoldable pub guam_of : List Float → GuamProjection
guam_of l =
    record {
      a = at l 1;
      e2 = at l 2;
      e = at l 3;
      lon0 = at l 4;
      lat0 = at l 5;
      false_easting = at l 6;
      false_northing = at l 7;
      m1 = at l 8;
    }

-- ---- the area of use

-- from place i on: 1 where there is one, and its edges, which are not checked; any other number where there is none
unfoldable pub area_from : List Float → ℕ → Option Area
area_from l i =
    cond (at l i ≈ one) (Some (record { west = at l (i + 1); east = at l (i + 2); south = at l (i + 3); north = at l (i + 4) })) None

-- ---- the whole

-- a mark below 256 is a refusal's number; of any other that names no kind, and of 0, there is no projection
unfoldable pub refusal_of : ℕ → Refusal
refusal_of mark = cond (ltb mark 256) (unwrap_or (from_number mark) LineForm) LineForm

-- the mark of a kind: 256 and its letter's code. Lambert's spherical form has the mark of L, and says so itself
abbrev pub mark_of : ℕ → ℕ
mark_of letter = 256 + letter

unfoldable pub marked : ℕ → List Float → Result Built Refusal
unfolding lambert_of albers_of equal_earth_of cassini_of polyconic_of guam_of refusal_of
marked mark l =
    cond (eqb mark (mark_of (code "L"))) (Ok (Lambert (lambert_of l))) (cond (eqb mark (mark_of (code "A"))) (Ok (Albers (albers_of l)))
    (cond (eqb mark (mark_of (code "E"))) (Ok (Equal (equal_earth_of l))) (cond (eqb mark (mark_of (code "C"))) (Ok (Cassini (cassini_of l)))
    (cond (eqb mark (mark_of (code "P"))) (Ok (Polyconic (polyconic_of l))) (cond (eqb mark (mark_of (code "G"))) (Ok (Guam (guam_of l)))
    (Err (refusal_of mark)))))))

-- the mark is the pattern of the number at place 0
unfoldable pub built_of : List Float → Result Built Refusal
unfolding marked
built_of l = marked (to_bits binary64 (at l 0)) l

unfoldable pub unpacked : List Float → Projection
unfolding built_of area_from
unpacked l = record { built = built_of l; en = from l 18 13; area = area_from l 31 }
