-- A projection by the letter of its kind and its settings, with an area of use or without; 2 for a letter that names no kind.
use Rattle.std.specs.Prelude.{ℕ, cond, List, Float}
use Rattle.refusals.specs.declared.Refusal.TheVariants.{LineForm}
use Rattle.letters.specs.Letters.{is_kind, kind_of}
use Rattle.projection.specs.declared.Area.{Area}
use Rattle.projection.specs.declared.Settings.{Settings}
use Rattle.kinds.specs.Kinds as kinds
use Rattle.kinds.specs.declared.Projection.{Projection}
use Rattle.packing.specs.Packing.{at}

-- from place 2 on, after a and f
abbrev pub settings : List Float → Settings
settings l = record { lon0 = at l 2; lat0 = at l 3; lat1 = at l 4; lat2 = at l 5; false_easting = at l 6; false_northing = at l 7 }

unfoldable pub build : ℕ → List Float → Projection
build kind l = cond (is_kind kind) (kinds.build (kind_of kind) (at l 0) (at l 1) (settings l)) (kinds.refused LineForm)

abbrev pub edges : List Float → Area
edges l = record { west = at l 0; east = at l 1; south = at l 2; north = at l 3 }

unfoldable pub build_in_area : ℕ → List Float → List Float → Projection
unfolding build
build_in_area kind l area = kinds.with_area (build kind l) (edges area)
