-- The laws by which a counted loop is proved equal to `iterate`: what is still to do equals the whole.
use Prim.Native.Nat.{ℕ, zero, suc, ◌+◌, ◌-◌, ◌<◌, ◌≤◌}
use mathlib.Core.Path.{◌≡◌, refl, sym, ◌∙◌}
use mathlib.Core.Bool.{true, false}
use native.Mathlib.Omega.{arith}
use lib.Ieee.{Float, nan, binary64}
use Rattle.float.specs.Operators.{◌⊖◌, ◌≺◌}
use Rattle.float.specs.Sign.{abs, negative}
use Rattle.float.proofs.NotANumber.{nan_sub, nan_below}
use Rattle.std.specs.Prelude.{Result, Ok, Err}
use Rattle.refusals.specs.declared.Refusal.{Refusal}
use Rattle.refusals.specs.declared.Refusal.TheVariants.{StepsUsedUp}
use Rattle.projection.specs.Iteration.{after_step, iterate, compared, converge}
use Rattle.projection.specs.declared.Step.{Step}
use Rattle.projection.specs.declared.Step.TheVariants.{More, Done}

module _ (step : Float → Result Step Refusal) where
  pub after_done : (n : ℕ) (v : Float) → after_step step n (Ok (Done v)) ≡ Ok v
  unfolding after_step
  after_done zero v = refl
  after_done (suc n) v = refl

  pub after_refusal : (n : ℕ) (r : Refusal) → after_step step n (Err r) ≡ Err r
  unfolding after_step
  after_refusal zero r = refl
  after_refusal (suc n) r = refl

  pub after_more : (n : ℕ) (v : Float) → after_step step n (Ok (More v)) ≡ iterate step n v
  unfolding iterate
  after_more n v = refl

  -- k steps of n are taken, and no more are left
  pub used_up : (n k : ℕ) (v : Float) → n ≤ k → iterate step (n - k) v ≡ Err StepsUsedUp
  unfolding iterate
  used_up n k v h = let e : n - k ≡ 0 = omega arith in rw e

  -- k steps of n are taken, and the next one gives s
  pub one_step : (n k : ℕ) (v : Float) (s : Result Step Refusal) → k < n → s ≡ step v → iterate step (n - k) v ≡ after_step step (n - (k + 1)) s
  unfolding iterate
  one_step n k v s h p = let e : n - k ≡ suc (n - (k + 1)) = omega arith in rw (e, p)

-- The same for the source's `converge`, from the loop's invariant: k rounds of n are used, and what is still to do from v gives the whole.
module _ (rule : Float → Float) (tolerance : Float) where
  abbrev step : Float → Result Step Refusal
  step v = Ok (compared v tolerance (rule v))

  -- the next round moves v by less than the tolerance
  pub converged : (n k : ℕ) {v next size : Float} {whole : Result Float Refusal} → converge rule v (n - k) tolerance ≡ whole → k < n → next ≡ rule v → size ≡ abs (next ⊖ v) → (size ≺ tolerance) ≡ true → Ok next ≡ whole
  unfolding converge compared
  converged n k {v} {next} i h p q t = sym (one_step step n k v (Ok (Done next)) h (rw (← p, ← q, t)) ∙ after_done step (n - (k + 1)) next) ∙ i

  -- it does not
  pub one_round : (n k : ℕ) {v next size : Float} {whole : Result Float Refusal} → converge rule v (n - k) tolerance ≡ whole → k < n → next ≡ rule v → size ≡ abs (next ⊖ v) → (size ≺ tolerance) ≡ false → converge rule next (n - (k + 1)) tolerance ≡ whole
  unfolding converge iterate compared
  one_round n k {v} {next} i h p q t = sym (one_step step n k v (Ok (More next)) h (rw (← p, ← q, t))) ∙ i

  -- no round is left
  pub rounds_used_up : (n k : ℕ) (v : Float) {whole : Result Float Refusal} → converge rule v (n - k) tolerance ≡ whole → n ≤ k → Err StepsUsedUp ≡ whole
  unfolding converge
  rounds_used_up n k v i h = sym (used_up step n k v h) ∙ i

  -- a rule that gives nothing but NaN uses up every round
  pub never_converges : ((v : Float) → rule v ≡ nan) → (n : ℕ) (v : Float) → converge rule v n tolerance ≡ Err StepsUsedUp
  unfolding converge iterate after_step compared abs negative
  never_converges h zero v = refl
  never_converges h (suc n) v = rw (h v, nan_sub binary64 v, nan_below tolerance) (never_converges h n nan)
