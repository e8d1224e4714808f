-- What the test of the lengths says, and what the columns then hold.
use Prim.Native.Nat.{ℕ}
use mathlib.Core.Path.{◌≡◌, refl}
use mathlib.Core.Bool.{true, false, and-eq-true_iff}
use mathlib.Core.List.{List, map}
use borrow.Author.Tests.{eqb-true}
use lib.Dec.{eqb}
use lib.ListN.{length}
use lib.Ieee.{Float}
use Rattle.projection.specs.Answer.{Answer}
use Rattle.refusals.specs.Refusals.{number}
use Rattle.projection.specs.Results.{first_result, second_result}
use Rattle.capi.specs.Columns.{each, equal_lengths, Column}

module _ (us vs ps qs : List Float) (ns : List ℕ) where
  pub one_length : equal_lengths us vs ps qs ns ≡ true → (length vs ≡ length us) × (length ps ≡ length us) × (length qs ≡ length us) × (length ns ≡ length us)
  one_length h =
      let d = (and-eq-true_iff _ (eqb (length ns) (length us))).0 h in
      let c = (and-eq-true_iff _ (eqb (length qs) (length us))).0 d.0 in
      let b = (and-eq-true_iff (eqb (length vs) (length us)) (eqb (length ps) (length us))).0 c.0 in
      (eqb-true _ _ b.0, eqb-true _ _ b.1, eqb-true _ _ c.1, eqb-true _ _ d.1)

  module _ (call : Float → Float → Answer) where
    pub filled : (ps' qs' : List Float) (ns' : List ℕ) → equal_lengths us vs ps qs ns ≡ true
        → (ps' ≡ map first_result (each call us vs)) × (qs' ≡ map second_result (each call us vs)) × (ns' ≡ map number (each call us vs))
        → Column call us vs ps qs ns 0 ps' qs' ns'
    filled ps' qs' ns' h f = record { said = rw h refl; firsts = rw h f.0; seconds = rw h f.1; numbers = rw h f.2 }

    pub kept : equal_lengths us vs ps qs ns ≡ false → Column call us vs ps qs ns 255 ps qs ns
    kept h = record { said = rw h refl; firsts = rw h refl; seconds = rw h refl; numbers = rw h refl }
