-- Nested sums, of any degree.
use Rattle.std.specs.Prelude.{List, [], ◌∷◌, Float}
use Rattle.float.specs.Operators.{◌⊕◌, ◌⊖◌, ◌⊗◌}
use Rattle.float.specs.Constants.{+0}

-- c₀ + w×(c₁ + w×(.. + w×cₙ)); of no coefficients +0
unfoldable pub nested : Float → List Float → Float
nested w [] = +0
nested w (c ∷ []) = c
nested w (c ∷ (d ∷ ds)) = c ⊕ w ⊗ nested w (d ∷ ds)

-- c₀ - w×(c₁ - w×(.. - w×cₙ))
unfoldable pub alternating : Float → List Float → Float
alternating w [] = +0
alternating w (c ∷ []) = c
alternating w (c ∷ (d ∷ ds)) = c ⊖ w ⊗ alternating w (d ∷ ds)
