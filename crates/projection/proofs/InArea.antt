-- What the area of use refuses and what it leaves as it is: an answer that passes lies inside, and is the answer without the area.
use mathlib.Core.Path.{◌≡◌, refl, ap}
use mathlib.Core.Bool.{◌&&◌, ◌||◌}
use mathlib.Core.Logic.{◌⊎◌, inl, inr}
use Prim.Native.Nat.{ℕ}
use native.Mathlib.Omega.{arith}
use lib.Dec.{T}
use lib.Signed.{◌≤ℤ◌}
use lib.Ieee.{Float, binary64, fits}
use lib.Ieee.Scale.{finite}
use mir.Facts.{and_yes, or_yes}
use Rattle.float.specs.Operators.{◌≼◌}
use Rattle.float.specs.Sign.{negative}
use Rattle.float.specs.Units.{unit_count, in_units}
use Rattle.float.proofs.Finite.{finite_of}
use Rattle.float.proofs.Units.{HasUnits}
use Rattle.float.proofs.UnitOrder.{lt_in_units, le_in_units}
use Rattle.projection.specs.Checks.{Check, passed}
use Rattle.projection.specs.OnTheMap.{OnTheMap}
use Rattle.projection.specs.AreaOfUse.{crosses, holds, validate_normalised, validate_place, ensure_inside}
use Rattle.projection.specs.InArea.{FiniteEdges, Longitudes, InUnits, Within, InArea}
use Rattle.projection.specs.Answer.{Answer, pair}
use Rattle.projection.proofs.Pairs.{same_first, same_second}
use Rattle.std.specs.Prelude.{Option, Some, None, Ok, Err}
use Rattle.std.specs.Result.{result_and}
use Rattle.refusals.specs.declared.Refusal.{Refusal}
use Rattle.projection.specs.declared.Area.{Area}

-- ---- what holds says in units

abbrev F64 : Float → Type 0
F64 x = T (fits binary64 x)

-- the four edges are f64
pub record Edges (area : Area) : Type 0 where
  pub west_held : F64 area.west
  pub east_held : F64 area.east
  pub south_held : F64 area.south
  pub north_held : F64 area.north

units : {x : Float} → F64 x → T (finite x) → HasUnits binary64 x (negative x) (unit_count binary64 x)
units {x} t f = (finite_of binary64 x t f).units

module _ (area : Area) (lon lat : Float) (e : Edges area) (u : F64 lon) (v : F64 lat) where
  in_the_units : T (holds area lon lat) → FiniteEdges area → T (finite lon) → T (finite lat) → InUnits area lon lat
  unfolding holds
  in_the_units h f p q =
      let parts = and_yes (area.west ≼ lon && lon ≼ area.east || crosses area && (area.west ≼ lon || lon ≼ area.east)) (area.south ≼ lat && lat ≼ area.north) h in
      let latitudes = and_yes (area.south ≼ lat) (lat ≼ area.north) parts.1 in
      record {
        longitude = go (or_yes (area.west ≼ lon && lon ≼ area.east) (crosses area && (area.west ≼ lon || lon ≼ area.east)) parts.0);
        from_south = le_in_units (units e.south_held f.south_finite) (units v q) latitudes.0;
        to_north = le_in_units (units v q) (units e.north_held f.north_finite) latitudes.1;
      }
    where
      W : HasUnits binary64 area.west (negative area.west) (unit_count binary64 area.west)
      W = units e.west_held f.west_finite

      E : HasUnits binary64 area.east (negative area.east) (unit_count binary64 area.east)
      E = units e.east_held f.east_finite

      L : HasUnits binary64 lon (negative lon) (unit_count binary64 lon)
      L = units u p

      beyond : T (area.west ≼ lon) ⊎ T (lon ≼ area.east) → (in_units area.west ≤ℤ in_units lon) ⊎ (in_units lon ≤ℤ in_units area.east)
      beyond (inl k) = inl (le_in_units W L k)
      beyond (inr k) = inr (le_in_units L E k)

      go : T (area.west ≼ lon && lon ≼ area.east) ⊎ T (crosses area && (area.west ≼ lon || lon ≼ area.east))
          → Longitudes (in_units area.west) (in_units area.east) (in_units lon)
      go (inl k) = let edges = and_yes (area.west ≼ lon) (lon ≼ area.east) k in inl (le_in_units W L edges.0, le_in_units L E edges.1)
      go (inr k) =
          let crossing = and_yes (crosses area) (area.west ≼ lon || lon ≼ area.east) k in
          inr (lt_in_units E W crossing.0, beyond (or_yes (area.west ≼ lon) (lon ≼ area.east) crossing.1))

  pub holds_within : T (holds area lon lat) → Within area lon lat
  holds_within h = record { as_numbers = h; exactly = in_the_units h }

-- ---- answers that lie inside

pub anywhere_in_area : (answer : Answer) → InArea None answer
anywhere_in_area answer = record { inside = λ lon lat e edges f. let z : ◌≡◌ {A = ℕ} 0 1 = cc in absurd (omega arith) }

pub refused_in_area : (area : Option Area) (r : Refusal) → InArea area (Err r)
refused_in_area area r = record { inside = λ lon lat e. let z : ◌≡◌ {A = ℕ} 0 1 = cc in absurd (omega arith) }

pub within_in_area : (area : Area) (lon lat : Float) → Within area lon lat → InArea (Some area) (Ok (lon, lat))
within_in_area area lon lat w = record { inside = go }
  where
    go : (lon' lat' : Float) → pair lon lat ≡ pair lon' lat' → (edges : Area) → Some area ≡ Some edges → Within edges lon' lat'
    go lon' lat' e edges f =
        let same_area : area ≡ edges = cc in
        let same_lon : lon ≡ lon' = same_first e in
        let same_lat : lat ≡ lat' = same_second e in
        rw (same_area, same_lon, same_lat) at w

-- ---- what an area leaves as it is

-- without an area every answer stays
pub inside_anywhere : (answer : Answer) → ensure_inside None answer ≡ answer
unfolding ensure_inside validate_normalised
inside_anywhere (Ok (lon, lat)) = refl
inside_anywhere (Err r) = refl

-- a place that passes stays
pub inside_passed : (area : Option Area) (lon lat : Float) → validate_normalised area lon lat ≡ passed → ensure_inside area (Ok (lon, lat)) ≡ Ok (lon, lat)
unfolding ensure_inside
inside_passed area lon lat z = rw z

-- what is answered with an area was answered without it, and passed
pub inside_answered : (area : Option Area) (answer : Answer) (lon lat : Float) → ensure_inside area answer ≡ Ok (lon, lat)
    → (answer ≡ Ok (lon, lat)) × (validate_normalised area lon lat ≡ passed)
unfolding ensure_inside
inside_answered area (Ok (u, v)) lon lat e = go (validate_normalised area u v) refl e
  where
    go : (c : Check) → validate_normalised area u v ≡ c → result_and c (pair u v) ≡ pair lon lat → (pair u v ≡ pair lon lat) × (validate_normalised area lon lat ≡ passed)
    go (Ok x) z f =
        let same_lon : u ≡ lon = same_first f in
        let same_lat : v ≡ lat = same_second f in
        (f, rw (same_lon, same_lat) at z)
    go (Err r) z f = let c : ◌≡◌ {A = ℕ} 0 1 = cc in absurd (omega arith)
inside_answered area (Err r) lon lat e = let c : ◌≡◌ {A = ℕ} 0 1 = cc in absurd (omega arith)

-- so demand 3 stays whole
pub inside_on_the_map : (area : Option Area) (formula answer : Answer) → OnTheMap formula answer → OnTheMap formula (ensure_inside area answer)
inside_on_the_map area formula answer on =
    record { answered = λ lon lat e. on.answered lon lat (inside_answered area answer lon lat e).0 }

-- The longitude of a place on the map is settled: to normalise it before the test would change nothing.
pub settled_place : (area : Option Area) (formula answer : Answer) (lon lat : Float) → OnTheMap formula answer → answer ≡ Ok (lon, lat)
    → validate_place area lon lat ≡ validate_normalised area lon lat
unfolding validate_place
settled_place area formula answer lon lat on e = ap (λ (x : Float). validate_normalised area x lat) (on.answered lon lat e).2.settled

-- With finite edges, as 25 leaves them, and by demand 3, which says that a place is finite, what is answered lies inside in whole units.
pub answered_in_units : (area : Area) (formula answer : Answer) (lon lat : Float) → FiniteEdges area → OnTheMap formula answer → InArea (Some area) answer
    → answer ≡ Ok (lon, lat) → InUnits area lon lat
answered_in_units area formula answer lon lat f on held e =
    let place = (on.answered lon lat e).2 in
    (held.inside lon lat e area refl).exactly f place.lon_finite place.lat_finite
