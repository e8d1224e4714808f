-- A round of the inverse that is given the two quotients which no round changes: they are worked out once a point (document 02, Q-4).
-- The round itself is `latitude_round` of specs/OnEllipsoid. proofs/GivenQuotients: given its own quotients, this one equals it, for every f64.
use Rattle.std.specs.Prelude.{Float}
use Rattle.float.specs.Operators.{◌⊕◌, ◌⊖◌, ◌⊗◌, ◌⊘◌}
use Rattle.float.specs.Constants.{one, two}
use Rattle.trigonometry.specs.Trigonometry.{sine, cosine}
use Rattle.fixed.specs.Logarithm.{ln}

-- one round from lat (3-16), given q / (1 - e²) and 1 / (2e)
unfoldable pub latitude_round_given : Float → Float → Float → Float → Float → Float
latitude_round_given scaled_q half_over_e e e2 lat =
    let sin_lat = sine lat in
    let e_sin = e ⊗ sin_lat in
    let one_minus_e2sin2 = one ⊖ e2 ⊗ sin_lat ⊗ sin_lat in
    lat ⊕ one_minus_e2sin2 ⊗ one_minus_e2sin2 ⊘ (two ⊗ cosine lat)
    ⊗ (scaled_q ⊖ sin_lat ⊘ one_minus_e2sin2 ⊕ half_over_e ⊗ ln ((one ⊖ e_sin) ⊘ (one ⊕ e_sin)))
