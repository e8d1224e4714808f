-- The same questions: whether the edges are finite, and then whether they bound an area.
use mathlib.Core.Path.{◌≡◌, refl}
use mathlib.Core.Bool.{Bool, true, false, cond, ◌&&◌, ◌||◌}
use lib.Ieee.{Float}
use lib.Ieee.Scale.{finite}
use Rattle.float.specs.Operators.{◌≺◌}
use Rattle.float.specs.Constants.{PI}
use Rattle.float.specs.Sign.{abs}
use Rattle.std.specs.Prelude.{Err}
use Rattle.refusals.specs.declared.Refusal.TheVariants.{AreaEdges}
use Rattle.projection.specs.Checks.{passed}
use Rattle.projection.specs.Bound.{LAT_BOUND}
use Rattle.projection.specs.AreaOfUse.{validate_area}
use Rattle.projection.specs.declared.Area.{Area}
use Rattle.projection.proofs.area_of_use.validate_area.Goals as goal

module _ (area : Area) {w e s n : Bool} (west : w ≡ finite area.west) (east : e ≡ finite area.east) (south : s ≡ finite area.south) (north : n ≡ finite area.north) where
  not_finite : ((w && e) && (s && n)) ≡ false → Err AreaEdges ≡ validate_area area
  unfolding validate_area
  not_finite h = rw (← west, ← east, ← south, ← north, h) refl

  finite_edges : {x y u v : Float} (bad : Bool) → x ≡ abs area.west → y ≡ abs area.east → u ≡ abs area.south → v ≡ abs area.north
      → ((w && e) && (s && n)) ≡ true → ((PI ≺ x || PI ≺ y) || (LAT_BOUND ≺ u || LAT_BOUND ≺ v) || area.north ≺ area.south) ≡ bad
      → cond bad (Err AreaEdges) passed ≡ validate_area area
  unfolding validate_area
  finite_edges bad p q r t h k = rw (← west, ← east, ← south, ← north, ← p, ← q, ← r, ← t, h, k) refl

pub returns-then-outside_turn-beyond : goal.returns-then-outside_turn-beyond
returns-then-outside_turn-beyond c =
    finite_edges _ c.is_finite.ensures c.is_finite-2.ensures c.is_finite-3.ensures c.is_finite-4.ensures true
    c.abs.ensures c.abs-then-longitudes-latitudes.ensures c.abs-then-longitudes-latitudes-2.ensures c.abs-then-longitudes-latitudes-3.ensures c.if-longitudes-latitudes.true c.if-outside_turn-beyond.true

pub returns-else-outside_turn-beyond : goal.returns-else-outside_turn-beyond
returns-else-outside_turn-beyond c =
    finite_edges _ c.is_finite.ensures c.is_finite-2.ensures c.is_finite-3.ensures c.is_finite-4.ensures false
    c.abs.ensures c.abs-then-longitudes-latitudes.ensures c.abs-then-longitudes-latitudes-2.ensures c.abs-then-longitudes-latitudes-3.ensures c.if-longitudes-latitudes.true c.if-outside_turn-beyond.false

pub returns-else-longitudes-latitudes : goal.returns-else-longitudes-latitudes
returns-else-longitudes-latitudes c =
    not_finite _ c.is_finite.ensures c.is_finite-2.ensures c.is_finite-3.ensures c.is_finite-4.ensures c.if-longitudes-latitudes.false
