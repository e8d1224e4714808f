-- A round that is given the two quotients of its q, e and e² is the definition's round: both do the same operations on the same numbers, whatever these are.
use mathlib.Core.Path.{◌≡◌, refl}
use lib.Ieee.{Float}
use Rattle.float.specs.Operators.{◌⊖◌, ◌⊗◌, ◌⊘◌}
use Rattle.float.specs.Constants.{one, two}
use Rattle.albers_equal_area.specs.OnEllipsoid.{latitude_round}
use Rattle.albers_equal_area.specs.GivenQuotients.{latitude_round_given}

-- for every f64, an e of 0, an e² of 1, infinities and NaN among them
pub given_quotients : (q e e2 lat : Float) → latitude_round_given (q ⊘ (one ⊖ e2)) (one ⊘ (two ⊗ e)) e e2 lat ≡ latitude_round q e e2 lat
unfolding latitude_round_given latitude_round
given_quotients q e e2 lat = refl
