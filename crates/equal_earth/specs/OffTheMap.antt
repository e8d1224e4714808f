-- Document 02's Q-6 in its own words: the clicks that the second inverse refuses. proofs/OffTheMap: it refuses these by 30, and elsewhere it is the first inverse.
use Rattle.std.specs.Prelude.{Bool, false, ◌&&◌, ◌||◌, Float, Result, Ok, Err}
use Rattle.std.specs.Float.Ieee.{neg}
use Rattle.std.specs.Float.Ieee.Scale.{finite}
use Rattle.float.specs.Operators.{◌⊖◌, ◌⊗◌, ◌⊘◌, ◌≺◌}
use Rattle.float.specs.Sign.{abs}
use Rattle.float.specs.Limits.{clamp}
use Rattle.refusals.specs.declared.Refusal.{Refusal}
use Rattle.equal_earth.specs.EqualEarth.{MAX_Y, EDGE_Y, EDGE_LON, psi_of_northing, longitude_from_origin}
use Rattle.equal_earth.specs.declared.EqualEarth.{EqualEarth}

-- "its longitude from the origin above π + 1e-12 in size", after the last round; rounds that are used up have none
abbrev pub off_longitude : Float → Result Float Refusal → Bool
off_longitude xs (Ok psi) = EDGE_LON ≺ abs (longitude_from_origin xs psi)
off_longitude xs (Err r) = false

-- "scaled northing above its limit + 1e-12 in size", before it is held to the map
abbrev pub off_scaled : Float → Float → Bool
off_scaled xs ys = EDGE_Y ≺ abs ys || off_longitude xs (psi_of_northing (clamp ys (neg MAX_Y) MAX_Y))

-- 20 stands before both
abbrev pub off_map : EqualEarth → Float → Float → Bool
off_map p x y =
    let scale = p.a ⊗ p.rqda in
    (finite x && finite y) && off_scaled ((x ⊖ p.false_easting) ⊘ scale) ((y ⊖ p.false_northing) ⊘ scale)
