-- The area of a catchment ring: document 02's Q-3.
use Rattle.std.specs.Prelude.{ℕ, Bool, true, false, cond, ◌&&◌, List, [], ◌∷◌, eqb, leb, length, Float, Result, Ok, Err}
use Rattle.std.specs.Result.{result_and}
use Rattle.std.specs.Float.Ieee.Scale.{finite}
use Rattle.float.specs.Operators.{◌⊕◌, ◌⊖◌, ◌⊗◌}
use Rattle.float.specs.Constants.{+0, half}
use Rattle.refusals.specs.declared.Refusal.{Refusal}
use Rattle.refusals.specs.declared.Refusal.TheVariants.{RingForm, RingResult}
use Rattle.projection.specs.Checks.{Check, passed}
use Rattle.kinds.specs.declared.Built.{Built}
use Rattle.kinds.specs.declared.Built.TheVariants as kind
use Rattle.kinds.specs.declared.Projection.{Projection}
use Rattle.ring.specs.Edge.{Points, place, join, edge}
use Rattle.ring.specs.declared.edge.Point.{Point}
use Rattle.ring.specs.declared.RingArea.{RingArea}

-- ---- the points

-- a point before others
unfoldable pub before : Result Point Refusal → Points → Points
before (Err k) rest = Err k
before (Ok a) (Err k) = Err k
before (Ok a) (Ok l) = Ok (a ∷ l)

-- the corners are projected first, in ring order
unfoldable pub corners : Projection → List Float → List Float → Points
unfolding before place
corners p [] lat = Ok []
corners p (x ∷ lon) [] = Ok []
corners p (x ∷ lon) (y ∷ lat) = before (place p x y) (corners p lon lat)

-- how often an edge is cut at most: at depth 10 it is neither tested nor cut
abbrev pub DEPTH : ℕ
DEPTH = 10

-- what follows the corner a up to the ring's end, where the corners after it are given: its edge, the next corner, and what follows that. The last edge runs to the first corner.
unfoldable pub around : Projection → Point → Point → List Point → Points
unfolding edge join
around p first a [] = edge p DEPTH a first
around p first a (b ∷ l) = join (edge p DEPTH a b) b (around p first b l)

unfoldable pub closed : Projection → Points → Points
unfolding around before
closed p (Err k) = Err k
closed p (Ok []) = Ok []
closed p (Ok (first ∷ l)) = before (Ok first) (around p first first l)

-- the points of a ring: all corners are projected, and then each edge in turn
unfoldable pub ring : Projection → List Float → List Float → Points
unfolding corners closed
ring p lon lat = closed p (corners p lon lat)

-- ---- the area

abbrev pub term : Point → Point → Float
term a next = (a.easting ⊗ next.northing) ⊖ (next.easting ⊗ a.northing)

-- the terms from the point a on, added to a sum in ring order; the first point follows the last
unfoldable pub sum_from : Point → Float → Point → List Point → Float
sum_from first sum a [] = sum ⊕ term a first
sum_from first sum a (b ∷ l) = sum_from first (sum ⊕ term a b) b l

-- half the sum, from +0
unfoldable pub area : List Point → Float
unfolding sum_from
area [] = +0
area (first ∷ l) = half ⊗ sum_from first +0 first l

-- ---- the answer

-- L and S (both are Lambert's), A and E
unfoldable pub keeps_areas : Result Built Refusal → Bool
keeps_areas (Ok (kind.Lambert p)) = true
keeps_areas (Ok (kind.Albers p)) = true
keeps_areas (Ok (kind.Equal p)) = true
keeps_areas (Ok (kind.Cassini p)) = false
keeps_areas (Ok (kind.Polyconic p)) = false
keeps_areas (Ok (kind.Guam p)) = false
keeps_areas (Err k) = false

-- 27, by the lengths of both lists. A projection that was refused has its own number before it.
unfoldable pub ring_fault : Projection → ℕ → ℕ → Check
unfolding keeps_areas
ring_fault p lons lats =
    result_and p.built (cond (((keeps_areas p.built && eqb lats lons) && leb 3 lons) && leb lons 4096) passed (Err RingForm))

-- 28, by the lengths of both buffers
abbrev pub judged : ℕ → ℕ → Points → Result RingArea Refusal
judged eastings northings (Err k) = Err k
judged eastings northings (Ok l) =
    cond ((leb (length l) eastings && leb (length l) northings) && finite (area l)) (Ok (record { area = area l; points = length l })) (Err RingResult)

unfoldable pub ring_area : Projection → List Float → List Float → ℕ → ℕ → Result RingArea Refusal
unfolding ring area ring_fault
ring_area p lon lat eastings northings = result_and (ring_fault p (length lon) (length lat)) (judged eastings northings (ring p lon lat))
