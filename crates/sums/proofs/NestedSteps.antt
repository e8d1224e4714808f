-- A nested sum at any degree: step by step, and as a reduction of its coefficients from the last to the first.
use mathlib.Core.Path.{◌≡◌, refl, ap, ◌∙◌}
use mathlib.Core.List.{List, [], ◌∷◌, ◌++◌, reverse}
use Prim.Native.Nat.{ℕ, suc, ◌+◌, ◌<◌}
use native.Mathlib.Numerals.{add-one}
use native.Mathlib.Omega.{arith}
use lib.Ieee.{Float, nan}
use lib.ListN.{length, get_or, drop}
use lib.Seq.{drop-cons, drop-length}
use Rattle.std.proofs.lemmas.Grind.{reverse_onto, fold-append}
use Rattle.std.proofs.lemmas.List.{length-reverse}
use Rattle.std.specs.List.{reduce}
use Rattle.std.specs.Option.{unwrap_or}
use Rattle.float.specs.Operators.{◌⊕◌, ◌⊗◌}
use Rattle.float.specs.Constants.{+0}
use Rattle.sums.specs.NestedSum.{nested}

-- one element more at the end
reduce_more : {A : Type 0} (f : A → A → A) (xs : List A) (x d : A) → 0 < length xs → unwrap_or (reduce f (xs ++ x ∷ [])) d ≡ f (unwrap_or (reduce f xs) d) x
reduce_more f [] x d h = absurd (omega arith)
reduce_more f (y ∷ ys) x d h = fold-append f y ys (x ∷ [])

module _ (w : Float) where
  abbrev pub onto : Float → Float → Float
  onto sum c = c ⊕ w ⊗ sum

  pub nested_reduced : (cs : List Float) → unwrap_or (reduce onto (reverse cs)) +0 ≡ nested w cs
  unfolding nested
  nested_reduced [] = refl
  nested_reduced (c ∷ []) = refl
  nested_reduced (c ∷ (d ∷ ds)) =
      ap (λ (xs : List Float). unwrap_or (reduce onto xs) +0) (reverse_onto (d ∷ ds) c [])
      ∙ reduce_more onto (reverse (d ∷ ds)) c +0 (rw (length-reverse (d ∷ ds)) (omega arith))
      ∙ ap (λ (sum : Float). c ⊕ w ⊗ sum) (nested_reduced (d ∷ ds))

-- the sum of the coefficients from i on, by the sum from i + 1 on
pub nested_degree : (w : Float) (c : List Float) (i : ℕ)
    → (i + 1 ≡ length c → nested w (drop i c) ≡ get_or c i nan)
    × (i + 1 < length c → nested w (drop i c) ≡ get_or c i nan ⊕ w ⊗ nested w (drop (i + 1) c))
unfolding nested
nested_degree w c i = (last, step)
  where
    last : i + 1 ≡ length c → nested w (drop i c) ≡ get_or c i nan
    last h =
        let a : i < length c = omega arith in
        let e : suc i ≡ length c = omega arith in
        rw (drop-cons c i nan a, e, drop-length)

    step : i + 1 < length c → nested w (drop i c) ≡ get_or c i nan ⊕ w ⊗ nested w (drop (i + 1) c)
    step h =
        let a : i < length c = omega arith in
        let b : suc i < length c = omega arith in
        rw (add-one, drop-cons c i nan a, drop-cons c (suc i) nan b)
