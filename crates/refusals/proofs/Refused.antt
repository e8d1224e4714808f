-- Laws of answers that may be refusals.
use Prim.Native.Nat.{ℕ}
use native.Mathlib.Omega.{arith}
use mathlib.Core.Bool.{false≢true}
use mathlib.Core.Path.{◌≡◌, refl, ap}
use Rattle.std.specs.Prelude.{Result, Ok, Err, IsErr}
use Rattle.std.specs.Result.{result_and, IsErrAnd}
use Rattle.refusals.specs.declared.Refusal.{Refusal}

-- a refusal is no answer
pub refused : {A B : Type 0} {r : Refusal} {x : B} → Err r ≡ Ok x → A
refused e = let z : ◌≡◌ {A = ℕ} 0 1 = cc in absurd (omega arith)

-- the refusals of a first check, and then those of a second
pub and_and : {A B C : Type 0} (r : Result A Refusal) (s : Result B Refusal) (a : Result C Refusal) → result_and (result_and r s) a ≡ result_and r (result_and s a)
and_and (Ok x) s a = refl
and_and (Err e) s a = refl

-- what `?` hands on is the refusal that it met
pub handed_on : {A : Type 0} {r : Result A Refusal} {e : Refusal} → IsErr r × IsErrAnd r (λ x. x ≡ e) → r ≡ Err e
handed_on {r = Ok x} h = absurd (false≢true h.0)
handed_on {r = Err x} h = ap Err h.1
