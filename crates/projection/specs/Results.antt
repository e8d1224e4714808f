-- What document 01 says of an answer: its number, 0 where it is answered (refusals/specs/Refusals), and two results, +0 twice where it is refused.
use Rattle.std.specs.Prelude.{Float, Ok, Err}
use Rattle.float.specs.Constants.{+0}
use Rattle.projection.specs.Answer.{Answer}

abbrev pub first_result : Answer → Float
first_result (Ok (p, q)) = p
first_result (Err r) = +0

abbrev pub second_result : Answer → Float
second_result (Ok (p, q)) = q
second_result (Err r) = +0
