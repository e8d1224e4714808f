-- What the code keeps of the points while it goes round. The ring's own definitions do not speak of it.
use Rattle.std.specs.Prelude.{ℕ, ◌+◌, ◌≡◌, true, List, [], ◌∷◌, map, drop, Float, Result, Ok, Err}
use Rattle.std.proofs.lemmas.List.Edits.{sets}
use Rattle.float.specs.Operators.{◌⊕◌, ◌⊗◌}
use Rattle.float.specs.Constants.{+0, half}
use Rattle.kinds.specs.declared.Projection.{Projection}
use Rattle.refusals.specs.declared.Refusal.{Refusal}
use Rattle.refusals.specs.declared.Refusal.TheVariants.{RingForm}
use Rattle.ring.specs.Edge.{Points, answered, points_of}
use Rattle.ring.specs.Ring.{term, around, corners}
use Rattle.ring.specs.declared.edge.Point.{Point}
use Rattle.ring.specs.declared.tally.Tally.{Tally}

unfoldable pub started : Point → Tally
started first = record { points = 1; sum = +0; last = first }

-- one point more
unfoldable pub counted : Tally → Point → Tally
counted t m = record { points = t.points + 1; sum = t.sum ⊕ term t.last m; last = m }

unfoldable pub tally_area : Tally → Point → Float
tally_area t first = half ⊗ (t.sum ⊕ term t.last first)

unfoldable pub counted_all : Tally → List Point → Tally
unfolding counted
counted_all t [] = t
counted_all t (m ∷ l) = counted_all (counted t m) l

unfoldable pub walked : Tally → Points → Result Tally Refusal
unfolding counted_all
walked t (Ok l) = Ok (counted_all t l)
walked t (Err k) = Err k

-- what follows the first corner, by the lists of both coordinates
abbrev pub rest : Projection → Point → List Float → List Float → Points
rest p first lon lat = around p first first (points_of (corners p (drop 1 lon) (drop 1 lat)))

-- the first corner, or the first refusal among the corners; no corners make no ring
unfoldable pub first_of : Points → Result Point Refusal
first_of (Err k) = Err k
first_of (Ok []) = Err RingForm
first_of (Ok (a ∷ l)) = Ok a

-- where the points are answered, a coordinate of each stands in the buffer from a place on
abbrev pub Laid : (Point → Float) → List Float → ℕ → Points → List Float → Type 0
Laid part old at ps new = answered ps ≡ true → new ≡ sets old at (map part (points_of ps))
