-- Equal answers have equal numbers.
use mathlib.Core.Path.{◌≡◌, ap}
use lib.Ieee.{Float}
use Rattle.projection.specs.Answer.{pair}
use Rattle.projection.specs.Results.{first_result, second_result}

pub same_first : {u v p q : Float} → pair u v ≡ pair p q → u ≡ p
same_first e = ap first_result e

pub same_second : {u v p q : Float} → pair u v ≡ pair p q → v ≡ q
same_second e = ap second_result e
