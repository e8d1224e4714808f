-- Which points the corners are, and that they stand among others.
use Rattle.std.specs.Prelude.{◌≡◌, ◌⊎◌, List, [], ◌∷◌, Float, Ok}
use Rattle.kinds.specs.Kinds.{forward}
use Rattle.kinds.specs.declared.Projection.{Projection}
use Rattle.ring.specs.declared.edge.Point.{Point}

-- point by point: the longitude and the latitude at that place of both lists, and what the projection answers of them
abbrev pub AtCorners : Projection → List Float → List Float → List Point → Type 0
AtCorners p [] [] [] = Unit
AtCorners p [] [] (a ∷ l) = ⊥
AtCorners p [] (y ∷ lat) l = ⊥
AtCorners p (x ∷ lon) [] l = ⊥
AtCorners p (x ∷ lon) (y ∷ lat) [] = ⊥
AtCorners p (x ∷ lon) (y ∷ lat) (a ∷ l) = (a.lon ≡ x) × (a.lat ≡ y) × (forward p x y ≡ Ok (a.easting, a.northing)) × AtCorners p lon lat l

-- each point of the first list stands in the second, in the same order
abbrev pub InOrder : List Point → List Point → Type 0
InOrder [] l = Unit
InOrder (a ∷ rest) [] = ⊥
InOrder (a ∷ rest) (b ∷ l) = (a ≡ b × InOrder rest l) ⊎ InOrder (a ∷ rest) l
