-- The source's constructors are ours: its negated questions are the opposites of ours, and what lies in [0, 1) is finite.
use mathlib.Core.Path.{◌≡◌, refl}
use mathlib.Core.Bool.{Bool, true, false, not, cond, ◌&&◌, ◌||◌, false≢true}
use lib.Ieee.{Float}
use lib.Ieee.Scale.{finite}
use Rattle.float.specs.Operators.{◌⊘◌, ◌≺◌, ◌≼◌}
use Rattle.float.specs.Constants.{+0, one}
use Rattle.std.specs.Prelude.{Ok, Err}
use Rattle.refusals.specs.declared.Refusal.TheVariants.{InverseFlattening, SemiMajorAxis, Flattening}
use Rattle.ellipsoid.specs.Ellipsoid.{from_a_f, from_a_rf, sphere}
use Rattle.ellipsoid.specs.AsInSource.{source_from_a_f, source_from_a_rf, source_sphere}
use Rattle.ellipsoid.proofs.Negated.{zero_finite, one_finite, not_above, between_finite}

-- of two tests, p that a is right, and q that f is; r, that f is finite, adds nothing
in_turn : {A : Type 0} (p r q : Bool) (bad worse built : A) → (r && q) ≡ q
    → cond (not p) bad (cond (not r || not q) worse built) ≡ cond p (cond q built worse) bad
in_turn false r q bad worse built h = refl
in_turn true true true bad worse built h = refl
in_turn true true false bad worse built h = refl
in_turn true false true bad worse built h = absurd (false≢true h)
in_turn true false false bad worse built h = refl

pub from_a_f_as_in_source : (a f : Float) → source_from_a_f a f ≡ from_a_f a f
unfolding from_a_f
from_a_f_as_in_source a f =
    rw (not_above a +0 zero_finite)
    (in_turn (finite a && +0 ≺ a) (finite f) (+0 ≼ f && f ≺ one) (Err SemiMajorAxis) (Err Flattening) (Ok (record { a = a; f = f }))
    (between_finite f +0 one zero_finite one_finite))

pub from_a_rf_as_in_source : (a rf : Float) → source_from_a_rf a rf ≡ from_a_rf a rf
unfolding from_a_rf
from_a_rf_as_in_source a rf = rw (not_above rf one one_finite, from_a_f_as_in_source a (one ⊘ rf)) (go (finite rf && one ≺ rf))
  where
    go : (p : Bool) → cond (not p) (Err InverseFlattening) (from_a_f a (one ⊘ rf)) ≡ cond p (from_a_f a (one ⊘ rf)) (Err InverseFlattening)
    go true = refl
    go false = refl

pub sphere_as_in_source : (radius : Float) → source_sphere radius ≡ sphere radius
unfolding sphere
sphere_as_in_source radius = from_a_f_as_in_source radius +0
