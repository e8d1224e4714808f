-- What documents 01 and 02 say of an answer, of a number and two results that are handed out.
use Rattle.std.specs.Prelude.{◌≡◌, ℕ, Float, Result}
use Rattle.refusals.specs.Refusals.{number}
use Rattle.refusals.specs.declared.Refusal.{Refusal}
use Rattle.projection.specs.Answer.{Answer}
use Rattle.projection.specs.Results.{first_result, second_result}
use Rattle.ring.specs.Results as ring
use Rattle.ring.specs.declared.RingArea.{RingArea}

abbrev pub Says : Answer → ℕ → Float → Float → Type 0
Says answer n p q = (n ≡ number answer) × ((p ≡ first_result answer) × (q ≡ second_result answer))

abbrev pub SaysArea : Result RingArea Refusal → ℕ → Float → ℕ → Type 0
SaysArea answer n area points = (n ≡ number answer) × ((area ≡ ring.square answer) × (points ≡ ring.points answer))
