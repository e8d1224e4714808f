-- Less than a turn away from 0, a number is its own remainder by a turn.
use mathlib.Core.Path.{◌≡◌, sym, ◌∙◌}
use mathlib.Core.Bool.{Bool, true, false, ◌&&◌, false≢true, and-eq-true_iff}
use Prim.Native.Nat.{ℕ, ◌<◌, zero-le}
use native.Mathlib.Nat.{mod-eq_of_lt, lt_of_le_of_lt}
use borrow.Author.Tests.{ltb-true}
use lib.Dec.{T}
use lib.Ieee.{Float, nan, inf, fin, binary64, fits, neg, lt, of_bits}
use lib.Ieee.Scale.{finite}
use Rattle.float.specs.Operators.{◌fmod◌, ◌≺◌}
use Rattle.float.specs.Constants.{TURN}
use Rattle.float.specs.Sign.{negative}
use Rattle.float.specs.Units.{unit_count}
use Rattle.float.proofs.Finite.{Finite, finite_of}
use Rattle.float.proofs.Unique.{finite_unique}
use Rattle.float.proofs.Negation.{neg_finite}
use Rattle.float.proofs.Remainder.{rem_finite}
use Rattle.float.proofs.Comparison.{lt_units}

module _ {x turn : Float} {a b : ℕ} (t : Finite binary64 turn false b) where
  fewer_units : (s : Bool) → Finite binary64 x s a → neg turn ≺ x ≡ true → x ≺ turn ≡ true → a < b
  fewer_units true p above below = ltb-true a b (sym (lt_units (neg_finite t).units p.units) ∙ above)
  fewer_units false p above below = ltb-true a b (sym (lt_units p.units t.units) ∙ below)

  pub stays : {s : Bool} → Finite binary64 x s a → a < b → x fmod turn ≡ x
  stays p l = finite_unique (rw (mod-eq_of_lt l) at (rem_finite p t (lt_of_le_of_lt zero-le l))) p

bounded : (x : Float) → neg TURN ≺ x ≡ true → x ≺ TURN ≡ true → T (finite x)
unfolding lt neg of_bits
bounded nan above below = absurd (false≢true above)
bounded (inf true) above below = absurd (false≢true above)
bounded (inf false) above below = absurd (false≢true below)
bounded (fin s m e) above below = tt

pub turn_is : Finite binary64 TURN false (unit_count binary64 TURN)
unfolding of_bits negative fits
turn_is = finite_of binary64 TURN tt tt

pub own_remainder : (x : Float) → T (fits binary64 x) → (neg TURN ≺ x && x ≺ TURN) ≡ true → x fmod TURN ≡ x
own_remainder x held between =
    let (above, below) = (and-eq-true_iff (neg TURN ≺ x) (x ≺ TURN)).0 between in
    let p = finite_of binary64 x held (bounded x above below) in
    stays turn_is p (fewer_units turn_is (negative x) p above below)
