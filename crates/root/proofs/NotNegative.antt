-- A root is never below 0.
use Rattle.std.proofs.Common.{◌≡◌, ℕ, zero, suc, ◌-◌, ◌*◌, ◌/◌, ◌^◌, Bool, true, false, ℤ, refl, zero-mul}
use lib.Ieee.{Float, nan, inf, fin, binary64, size, lt, of_bits, up, down}
use Rattle.float.specs.Constants.{+0}
use Rattle.float.specs.Operators.{◌≺◌}
use Rattle.float.specs.Units.{unit_count}
use Rattle.float.proofs.NeverNan.{units_plus, plus_not_negative}
use Rattle.root.specs.Root.{nearest_root, root_units, root}

-- +0 and -0
nought : (s : Bool) (e : ℤ) → (fin s zero e ≺ +0) ≡ false
unfolding lt of_bits
nought false e = plus_not_negative (fin false zero e) refl
nought true e = rw (zero-mul (up e), zero-mul (down e)) refl

positive : (w : ℕ) → (root_units w ≺ +0) ≡ false
unfolding root_units
positive w = let k = suc (size w) / 2 - 53 in plus_not_negative (root_units w) (units_plus binary64 (nearest_root w k) k)

pub root_not_negative : (x : Float) → (root x ≺ +0) ≡ false
unfolding root unit_count lt of_bits
root_not_negative nan = refl
root_not_negative (inf true) = refl
root_not_negative (inf false) = refl
root_not_negative (fin s zero e) = nought s e
root_not_negative (fin true (suc m) e) = refl
root_not_negative (fin false (suc m) e) = positive (unit_count binary64 (fin false (suc m) e) * 2 ^ 1074)
