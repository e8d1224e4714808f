-- The coefficients of arctangent and ln: 1, 1/3, 1/5 .. 1/25, each the f64 quotient (document 01, Fixed functions).
use Rattle.std.specs.Prelude.{◌≡◌, refl, List, [], ◌∷◌, map, ℕ, Float}
use Rattle.std.specs.Float.Ieee.{of_bits, round, div}
use Rattle.float.specs.Operators.{◌⊘◌, f64}
use Rattle.float.specs.Constants.{one, three, ratio}

abbrev pub inverse_odds : List Float
inverse_odds =
    one ∷ one ⊘ three ∷ one ⊘ f64 0x4014000000000000 ∷ one ⊘ f64 0x401c000000000000 ∷ one ⊘ f64 0x4022000000000000
    ∷ one ⊘ f64 0x4026000000000000 ∷ one ⊘ f64 0x402a000000000000 ∷ one ⊘ f64 0x402e000000000000 ∷ one ⊘ f64 0x4031000000000000
    ∷ one ⊘ f64 0x4033000000000000 ∷ one ⊘ f64 0x4035000000000000 ∷ one ⊘ f64 0x4037000000000000 ∷ one ⊘ f64 0x4039000000000000 ∷ []

pub odd_denominators : inverse_odds ≡ map (λ (n : ℕ). one ⊘ ratio n 1) (1 ∷ 3 ∷ 5 ∷ 7 ∷ 9 ∷ 11 ∷ 13 ∷ 15 ∷ 17 ∷ 19 ∷ 21 ∷ 23 ∷ 25 ∷ [])
unfolding of_bits round div
odd_denominators = refl
