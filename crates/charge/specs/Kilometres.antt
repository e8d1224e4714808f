-- The started kilometres of a distance (document 02, Q-7).
use Rattle.std.specs.Prelude.{ℕ, ◌*◌, ◌^◌, Bool, nat_le, Float}
use Rattle.std.specs.Float.{binary64}
use Rattle.float.specs.Units.{unit_count}
use Rattle.charge.specs.Least.{least}

-- n metres are not below a distance. Both are whole numbers of units of 2 ^ -1074, so nothing rounds. A distance is a root, and never below 0
-- (`root_not_negative` of root/proofs/NotNegative).
unfoldable pub reaches : Float → ℕ → Bool
unfolding unit_count
reaches d n = nat_le (unit_count binary64 d) (n * 2 ^ 1074)

-- the least whole k with 1,000 × k not below the distance: 1,000 is enough for each that is charged (`bill_charge` of proofs/Charged)
unfoldable pub kilometres : Float → ℕ
unfolding least reaches
kilometres d = least (λ k. reaches d (1000 * k)) 1000
