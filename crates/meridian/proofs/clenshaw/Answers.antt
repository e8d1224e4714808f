-- The chain folds the coefficients from the last down.
use mathlib.Core.Path.{◌≡◌, refl, ap, ◌∙◌}
use mathlib.Core.List.{reverse}
use borrow.Author.Rules.{rules}
use lib.Ieee.{Float}
use Rattle.std.specs.List.{fold}
use Rattle.float.specs.Operators.{◌⊕◌, ◌⊖◌, ◌⊗◌}
use Rattle.float.specs.Constants.{+0, two}
use Rattle.meridian.specs.Meridian.{Sums, clenshaw, clenshaw_step, double_cosine, no_sums}
use Rattle.meridian.proofs.FromEnd.{folded}
use Rattle.meridian.proofs.clenshaw.Goals as goal

abbrev both : Sums → Float × Float
both s = (s.u0, s.u1)

pub returns : goal.returns
unfolding clenshaw
returns c = let a = c.args in
    let x = double_cosine a.sin_zeta a.cos_zeta in
    let turn : Float × Float → Float → Float × Float = λ p k. (x ⊗ p.0 ⊖ p.1 ⊕ k, p.0) in
    let e : c.fold-u0.result ≡ fold turn (+0, +0) (reverse a.c.now) = search rules in
    ap (λ (p : Float × Float). two ⊗ a.sin_zeta ⊗ a.cos_zeta ⊗ p.0) (e ∙ folded both (clenshaw_step x) turn (λ k s. refl) no_sums a.c.now)
