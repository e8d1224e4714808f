-- A column of points: each place of the results holds what a single call gives.
use Rattle.std.specs.Prelude.{ℕ, ◌≡◌, Bool, cond, ◌&&◌, List, [], ◌∷◌, map, eqb, length, Float}
use Rattle.refusals.specs.Refusals.{number_of, number}
use Rattle.refusals.specs.declared.Refusal.TheVariants.{UnequalLengths}
use Rattle.projection.specs.Answer.{Answer}
use Rattle.projection.specs.Results.{first_result, second_result}

-- a single call's answers, place by place
unfoldable pub each : (Float → Float → Answer) → List Float → List Float → List Answer
each call [] vs = []
each call (u ∷ us) [] = []
each call (u ∷ us) (v ∷ vs) = call u v ∷ each call us vs

abbrev pub equal_lengths : List Float → List Float → List Float → List Float → List ℕ → Bool
equal_lengths us vs ps qs ns = ((eqb (length vs) (length us) && eqb (length ps) (length us)) && eqb (length qs) (length us)) && eqb (length ns) (length us)

-- 0 and the answers for columns of one length; else 255, and what is lent stays as it is
pub record Column (call : Float → Float → Answer) (us vs ps qs : List Float) (ns : List ℕ) (r : ℕ) (ps' qs' : List Float) (ns' : List ℕ) : Type 0 where
  pub said : r ≡ cond (equal_lengths us vs ps qs ns) 0 (number_of UnequalLengths)
  pub firsts : ps' ≡ cond (equal_lengths us vs ps qs ns) (map first_result (each call us vs)) ps
  pub seconds : qs' ≡ cond (equal_lengths us vs ps qs ns) (map second_result (each call us vs)) qs
  pub numbers : ns' ≡ cond (equal_lengths us vs ps qs ns) (map number (each call us vs)) ns
