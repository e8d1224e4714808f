-- Factorials, and the rule of the factorial table (document 01, Fixed functions).
use Rattle.std.specs.Prelude.{List, [], ◌∷◌, ℕ, zero, suc, ◌+◌, ◌*◌, Float}
use Rattle.std.specs.Float.Ieee.{neg}
use Rattle.float.specs.Constants.{ratio}

unfoldable pub factorial : ℕ → ℕ
factorial zero = 1
factorial (suc n) = suc n * factorial n

-- the f64 nearest to 1/n!
unfoldable pub inverse_factorial : ℕ → Float
unfolding factorial
inverse_factorial n = ratio 1 (factorial n)

-- -1/n!, 1/(n + 2)!, -1/(n + 4)! and so on, eight of them
unfoldable pub factorial_terms : ℕ → List Float
factorial_terms n =
    neg (inverse_factorial n) ∷ inverse_factorial (n + 2) ∷ neg (inverse_factorial (n + 4)) ∷ inverse_factorial (n + 6)
    ∷ neg (inverse_factorial (n + 8)) ∷ inverse_factorial (n + 10) ∷ neg (inverse_factorial (n + 12)) ∷ inverse_factorial (n + 14) ∷ []
