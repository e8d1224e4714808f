-- What a projection answers: a pair of coordinates, or why there is none.
use Rattle.std.specs.Prelude.{Float, Result, Ok}
use Rattle.refusals.specs.declared.Refusal.{Refusal}

abbrev pub Answer : Type 0
Answer = Result (Float × Float) Refusal

-- the answer of two numbers
abbrev pub pair : Float → Float → Answer
pair p q = Ok (p, q)
