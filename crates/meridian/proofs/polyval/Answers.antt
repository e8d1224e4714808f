-- The chain folds the coefficients from the last down.
use mathlib.Core.Path.{◌≡◌, refl, ◌∙◌}
use mathlib.Core.List.{reverse}
use borrow.Author.Rules.{rules}
use lib.Ieee.{Float}
use Rattle.std.specs.List.{fold}
use Rattle.float.specs.Constants.{+0}
use Rattle.meridian.specs.Meridian.{polyval, horner}
use Rattle.meridian.proofs.FromEnd.{folded}
use Rattle.meridian.proofs.polyval.Goals as goal

pub returns : goal.returns
unfolding polyval
returns c = let a = c.args in
    let e : c.fold.result ≡ fold (λ (y k : Float). horner a.x k y) +0 (reverse a.p.now) = search rules in
    e ∙ folded (λ (y : Float). y) (horner a.x) (λ (y k : Float). horner a.x k y) (λ k y. refl) +0 a.p.now
