-- An iteration with a step limit, for any step rule.
use Rattle.std.specs.Prelude.{cond, ℕ, zero, suc, Float, Result, Ok, Err}
use Rattle.float.specs.Operators.{◌⊖◌, ◌≺◌}
use Rattle.float.specs.Sign.{abs}
use Rattle.refusals.specs.declared.Refusal.{Refusal}
use Rattle.refusals.specs.declared.Refusal.TheVariants.{StepsUsedUp}
use Rattle.projection.specs.declared.Step.{Step}
use Rattle.projection.specs.declared.Step.TheVariants.{More, Done}

-- what a step gave, with n steps left
unfoldable pub after_step : (Float → Result Step Refusal) → ℕ → Result Step Refusal → Result Float Refusal
after_step step zero (Ok (More v)) = Err StepsUsedUp
after_step step zero (Ok (Done v)) = Ok v
after_step step zero (Err r) = Err r
after_step step (suc n) (Ok (More v)) = after_step step n (step v)
after_step step (suc n) (Ok (Done v)) = Ok v
after_step step (suc n) (Err r) = Err r

-- at most n steps from v
unfoldable pub iterate : (Float → Result Step Refusal) → ℕ → Float → Result Float Refusal
unfolding after_step
iterate step n v = after_step step n (Ok (More v))

-- done where the step moved by strictly less than the tolerance
unfoldable pub compared : Float → Float → Float → Step
compared value tolerance next = cond (abs (next ⊖ value) ≺ tolerance) (Done next) (More next)

-- the source's `converge`
unfoldable pub converge : (Float → Float) → Float → ℕ → Float → Result Float Refusal
unfolding iterate compared
converge rule initial steps tolerance = iterate (λ value. Ok (compared value tolerance (rule value))) steps initial
