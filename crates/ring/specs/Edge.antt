-- Where an edge is cut: document 02's Q-3. An edge runs straight in longitude and latitude.
use Rattle.std.specs.Prelude.{ℕ, zero, suc, Bool, true, false, List, [], ◌∷◌, ◌++◌, Float, Option, Some, None, Result, Ok, Err}
use Rattle.float.specs.Operators.{◌⊕◌, ◌⊖◌, ◌⊗◌, ◌≼◌}
use Rattle.float.specs.Constants.{half}
use Rattle.root.specs.Plane.{distance}
use Rattle.refusals.specs.declared.Refusal.{Refusal}
use Rattle.projection.specs.Answer.{Answer}
use Rattle.kinds.specs.Kinds.{forward}
use Rattle.kinds.specs.declared.Projection.{Projection}
use Rattle.ring.specs.declared.edge.Point.{Point}

-- ---- points

-- points in ring order, or the first refusal in working order
abbrev pub Points : Type 0
Points = Result (List Point) Refusal

abbrev pub answered : Points → Bool
answered (Ok l) = true
answered (Err r) = false

abbrev pub points_of : Points → List Point
points_of (Ok l) = l
points_of (Err r) = []

abbrev pub easting_of : Point → Float
easting_of a = a.easting

abbrev pub northing_of : Point → Float
northing_of a = a.northing

abbrev pub put : Float → Float → Answer → Result Point Refusal
put lon lat (Ok (easting, northing)) = Ok (record { lon = lon; lat = lat; easting = easting; northing = northing })
put lon lat (Err r) = Err r

-- a place projected: with an area of use, 26 is such a point's own number
unfoldable pub place : Projection → Float → Float → Result Point Refusal
place p lon lat = put lon lat (forward p lon lat)

-- ---- the midpoint

-- half the sum, of coordinates as they are given
unfoldable pub halfway : Float → Float → Float
halfway x y = (x ⊕ y) ⊗ half

-- from the projected midpoint to the midpoint of the projected ends is at most 0.5 m
unfoldable pub uncut : Point → Point → Point → Bool
unfolding halfway
uncut a b m = distance (m.easting ⊖ halfway a.easting b.easting) (m.northing ⊖ halfway a.northing b.northing) ≼ half

-- where the edge is cut, if it is
abbrev pub cut_or_not : Bool → Point → Option Point
cut_or_not true m = None
cut_or_not false m = Some m

abbrev pub tested : Point → Point → Result Point Refusal → Result (Option Point) Refusal
tested a b (Ok m) = Ok (cut_or_not (uncut a b m) m)
tested a b (Err r) = Err r

unfoldable pub midpoint : Projection → Point → Point → Result (Option Point) Refusal
unfolding place halfway uncut
midpoint p a b = tested a b (place p (halfway a.lon b.lon) (halfway a.lat b.lat))

-- ---- the edge

-- the first half's points, the midpoint, the second half's; the first refusal, the first half's first
unfoldable pub join : Points → Point → Points → Points
join (Err k) m second = Err k
join (Ok l) m (Err k) = Err k
join (Ok l) m (Ok r) = Ok (l ++ m ∷ r)

unfoldable pub split : (Point → Points) → (Point → Points) → Result (Option Point) Refusal → Points
unfolding join
split first second (Err k) = Err k
split first second (Ok None) = Ok []
split first second (Ok (Some m)) = join (first m) m (second m)

-- the points at which the edge from a to b is cut, with so many cuts left; with none it is neither tested nor cut
unfoldable pub edge : Projection → ℕ → Point → Point → Points
unfolding midpoint split
edge p zero a b = Ok []
edge p (suc left) a b = split (λ m. edge p left a m) (λ m. edge p left m b) (midpoint p a b)
