-- What a lent buffer holds after the call.
use Rattle.std.specs.Prelude.{List, ◌++◌, map, drop, Float, Result, Ok, Err}
use Rattle.refusals.specs.declared.Refusal.{Refusal}
use Rattle.ring.specs.Edge.{Points, points_of}
use Rattle.ring.specs.declared.edge.Point.{Point}
use Rattle.ring.specs.declared.RingArea.{RingArea}

-- a coordinate of each point, and after them what stood there; of a refusal, all that stood there
unfoldable pub stored : (Point → Float) → Result RingArea Refusal → Points → List Float → List Float
stored part (Ok r) ring old = map part (points_of ring) ++ drop r.points old
stored part (Err k) ring old = old
