-- Document 01's demand 3: whatever an inverse answers lies on the map. Sizes and distances are exact, in whole units of 2^-1074.
use Rattle.std.specs.Prelude.{◌≡◌, ℕ, ◌*◌, ◌-◌, ◌^◌, ◌≤◌, ℤ, nat_abs, ◌+ℤ◌, ◌-ℤ◌, ◌*ℤ◌, T, Float, Ok}
use Rattle.std.specs.Float.Ieee.Scale.{finite}
use Rattle.float.specs.Constants.{PI, TURN}
use Rattle.float.specs.Units.{in_units}
use Rattle.projection.specs.Bound.{LAT_BOUND}
use Rattle.projection.specs.Longitude.{normalize_longitude}
use Rattle.projection.specs.Answer.{Answer}

-- 2^-42 and 1,024, in units
abbrev pub WITHIN : ℕ
WITHIN = 2 ^ (1074 - 42)

abbrev pub FAR : ℕ
FAR = 1024 * 2 ^ 1074

-- a place on the map, raw being 01's formula's longitude
pub record Place (raw lon lat : Float) : Type 0 where
  -- `in_units` takes NaN and infinities for 0: none of the three is one
  pub raw_finite : T (finite raw)
  pub lon_finite : T (finite lon)
  pub lat_finite : T (finite lat)
  pub lon_bound : nat_abs (in_units lon) ≤ nat_abs (in_units PI)
  pub lat_bound : nat_abs (in_units lat) ≤ nat_abs (in_units LAT_BOUND)
  -- normalising again gives the same bits; so it is never -0
  pub settled : normalize_longitude lon ≡ lon
  -- where raw is at most 1,024 in size, lon is within 2^-42 of it and k whole turns
  pub near : nat_abs (in_units raw) ≤ FAR → (k : ℤ) × (nat_abs (in_units raw +ℤ k *ℤ in_units TURN -ℤ in_units lon) ≤ WITHIN)

-- what is answered is a place on the map, from the formula's longitude and with its latitude
pub record OnTheMap (formula answer : Answer) : Type 0 where
  pub answered : (lon lat : Float) → answer ≡ Ok (lon, lat) → (raw : Float) × (formula ≡ Ok (raw, lat)) × Place raw lon lat
