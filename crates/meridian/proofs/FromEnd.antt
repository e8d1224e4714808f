-- A chain over a list from its last element down is a fold from the end: one law for every length and every rule.
use mathlib.Core.Path.{◌≡◌, refl, ap, ◌∙◌}
use mathlib.Core.List.{List, [], ◌∷◌, reverse}
use lib.Ieee.{Float}
use Rattle.std.proofs.lemmas.Grind.{reverse_onto, fold-append}
use Rattle.std.specs.List.{fold}
use Rattle.meridian.specs.Meridian.{from_end}

-- where `view` reads the chain's value from the definition's, and g does to the one what f does to the other
module _ {A B : Type 0} (view : A → B) (f : Float → A → A) (g : B → Float → B) (alike : (c : Float) (a : A) → g (view a) c ≡ view (f c a)) (z : A) where
  pub folded : (l : List Float) → fold g (view z) (reverse l) ≡ view (from_end f z l)
  unfolding from_end
  folded [] = refl
  folded (c ∷ cs) =
      ap (fold g (view z)) (reverse_onto cs c [])
      ∙ fold-append g (view z) (reverse cs) (c ∷ [])
      ∙ ap (λ (b : B). g b c) (folded cs)
      ∙ alike c (from_end f z cs)
