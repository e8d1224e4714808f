-- What documents 01 and 02 say of an answer: its number (refusals/specs/Refusals), the area and the number of points; of a refusal the last two are +0 and 0.
use Rattle.std.specs.Prelude.{ℕ, Float, Result, Ok, Err}
use Rattle.float.specs.Constants.{+0}
use Rattle.refusals.specs.declared.Refusal.{Refusal}
use Rattle.ring.specs.declared.RingArea.{RingArea}

abbrev pub square : Result RingArea Refusal → Float
square (Ok r) = r.area
square (Err k) = +0

abbrev pub points : Result RingArea Refusal → ℕ
points (Ok r) = r.points
points (Err k) = 0
