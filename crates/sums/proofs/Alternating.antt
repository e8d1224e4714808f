-- A nested sum with alternating signs is the nested sum at -w, at any degree.
use mathlib.Core.Path.{◌≡◌, refl, ap, ◌∙◌}
use mathlib.Core.List.{List, [], ◌∷◌}
use lib.Ieee.{Float, binary64, neg, sub}
use Rattle.float.specs.Operators.{◌⊕◌, ◌⊗◌}
use Rattle.float.proofs.SignLaws.{neg_mul}
use Rattle.sums.specs.NestedSum.{nested, alternating}

pub alternating_is : (w : Float) (cs : List Float) → alternating w cs ≡ nested (neg w) cs
unfolding alternating nested sub
alternating_is w [] = refl
alternating_is w (c ∷ []) = refl
alternating_is w (c ∷ (d ∷ ds)) = ap (λ (x : Float). c ⊕ x) (neg_mul binary64 w _ ∙ ap (λ (x : Float). neg w ⊗ x) (alternating_is w (d ∷ ds)))
