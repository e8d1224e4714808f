-- What document 02's area of use adds to demand 3: whatever an inverse answers lies inside, as numbers and in whole units of 2^-1074.
use Rattle.std.specs.Prelude.{◌≡◌, ◌⊎◌, T, ℤ, ◌≤ℤ◌, ◌<ℤ◌, Float, Option, Some, Ok}
use Rattle.std.specs.Float.Ieee.Scale.{finite}
use Rattle.float.specs.Units.{in_units}
use Rattle.projection.specs.AreaOfUse.{holds}
use Rattle.projection.specs.Answer.{Answer}
use Rattle.projection.specs.declared.Area.{Area}

-- `in_units` takes NaN and infinities for 0. An area that a projection was built with has no such edge: 25.
pub record FiniteEdges (area : Area) : Type 0 where
  pub west_finite : T (finite area.west)
  pub east_finite : T (finite area.east)
  pub south_finite : T (finite area.south)
  pub north_finite : T (finite area.north)

-- between west and east; or, where west is above east, beyond one of them
abbrev pub Longitudes : (west east lon : ℤ) → Type 0
Longitudes west east lon = (west ≤ℤ lon × lon ≤ℤ east) ⊎ (east <ℤ west × (west ≤ℤ lon ⊎ lon ≤ℤ east))

pub record InUnits (area : Area) (lon lat : Float) : Type 0 where
  pub longitude : Longitudes (in_units area.west) (in_units area.east) (in_units lon)
  pub from_south : in_units area.south ≤ℤ in_units lat
  pub to_north : in_units lat ≤ℤ in_units area.north

pub record Within (area : Area) (lon lat : Float) : Type 0 where
  pub as_numbers : T (holds area lon lat)
  pub exactly : FiniteEdges area → T (finite lon) → T (finite lat) → InUnits area lon lat

-- what is answered lies inside the area of use, where there is one
pub record InArea (area : Option Area) (answer : Answer) : Type 0 where
  pub inside : (lon lat : Float) → answer ≡ Ok (lon, lat) → (edges : Area) → area ≡ Some edges → Within edges lon lat
