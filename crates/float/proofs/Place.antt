-- The place of a float's last digit: in units of 2 ^ -l, 2 ^ e is 2 ^ place l e.
use mathlib.Core.Path.{◌≡◌, ap}
use Prim.Native.Nat.{ℕ, suc, ◌+◌, ◌-◌, ◌*◌, ◌^◌, ◌≤◌}
use native.Mathlib.Nat.{one-mul, mul-one, mul_comm, sub-add_cancel}
use native.Mathlib.Omega.{arith}
use lib.IntN.{ℤ, pos, negsuc}
use lib.Pow.{pow-add}
use lib.Ieee.{up, down}
use Rattle.float.proofs.Powers.{pow_le_back}

abbrev pub place : ℕ → ℤ → ℕ
place l (pos k) = l + k
place l (negsuc k) = l - suc k

pub place_value : (l : ℕ) (e : ℤ) → down e ≤ 2 ^ l → up e * 2 ^ l ≡ 2 ^ place l e * down e
place_value l (pos k) h = rw (mul-one, pow-add 2 l k) (mul_comm (2 ^ k) (2 ^ l))
place_value l (negsuc k) h = rw (one-mul, ← pow-add 2 (l - suc k) (suc k), sub-add_cancel (pow_le_back h))

pub place_injective : (l : ℕ) (e d : ℤ) → down e ≤ 2 ^ l → down d ≤ 2 ^ l → place l e ≡ place l d → e ≡ d
place_injective l (pos j) (pos k) g h i = ap pos (omega arith)
place_injective l (pos j) (negsuc k) g h i = absurd (omega (arith, pow_le_back h))
place_injective l (negsuc j) (pos k) g h i = absurd (omega (arith, pow_le_back g))
place_injective l (negsuc j) (negsuc k) g h i = ap negsuc (omega (arith, pow_le_back g, pow_le_back h))
