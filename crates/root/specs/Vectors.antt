-- Document 01's M4 and M5, and a few more: the smallest f64 above 0, 1/3, 2, and the largest finite f64.
use Rattle.std.specs.Prelude.{◌≡◌, [], ◌∷◌, refl}
use Rattle.std.specs.Float.Ieee.{of_bits, round}
use Rattle.float.specs.Operators.{f64}
use Rattle.float.specs.Constants.{two, four, ratio}
use Rattle.root.specs.Root.{root}

pub vectors :
    (root four ∷ root (f64 0x8000000000000000) ∷ root (f64 1) ∷ root (ratio 1 3) ∷ root two ∷ root (f64 0x7fefffffffffffff) ∷ [])
    ≡ (two ∷ f64 0x8000000000000000 ∷ f64 0x1e60000000000000 ∷ f64 0x3fe279a74590331c ∷ f64 0x3ff6a09e667f3bcd ∷ f64 0x5fefffffffffffff ∷ [])
unfolding root of_bits round
vectors = refl
