-- The loop over the numbers of a line: those that are read, and what the fields that are left give, make the whole.
use Rattle.std.proofs.Common.{◌≡◌, ℕ, suc, ◌+◌, ◌-◌, ◌<◌, ◌≤◌, List, [], ◌∷◌, ◌++◌, length, take, drop, set, length-set, Some, None, refl, sym, ap, ◌∙◌, arith, append_assoc, add-one, append-nil, take_all}
use Rattle.std.specs.Prelude.{Option, Float}
use Rattle.std.specs.Option.{option_map}
use Rattle.std.specs.Float.Ieee.{of_bits}
use Rattle.std.specs.Float.{binary64}
use Rattle.std.proofs.Math.Seq.{take-suc-set, drop-drop}
use Rattle.sheet.specs.Hex.{read_hex}
use Rattle.sheet.specs.ValueLine.{is_number, number, first_numbers}

pub record Reading (all left : List (List ℕ)) (xs : List Float) (i : ℕ) : Type 0 where
  pub whole : length xs ≡ 10
  pub rest : left ≡ drop i all
  pub made : first_numbers 10 all ≡ option_map (λ ys. take i xs ++ ys) (first_numbers (10 - i) left)

one_more : (t s : List Float) (x : Float) (r : Option (List Float)) → s ≡ t ++ (x ∷ []) → option_map (λ ys. t ++ ys) (option_map (λ ys. x ∷ ys) r) ≡ option_map (λ ys. s ++ ys) r
one_more t s x None e = refl
one_more t s x (Some ys) e = rw e (ap Some (sym (append_assoc t (x ∷ []) ys)))

module _ (all left : List (List ℕ)) (xs : List Float) (i : ℕ) (v : Reading all left xs i) where
  pub ends : 10 ≤ i → Some xs ≡ first_numbers 10 all
  unfolding first_numbers
  ends h =
      let n : 10 - i ≡ 0 = omega arith in
      let t : take i xs ≡ xs = take_all i xs (omega (arith, v.whole)) in
      sym (v.made ∙ rw (n, t) (ap Some (append-nil xs)))

  module _ (h : i < 10) where
    one_left : 10 - i ≡ suc (10 - (i + 1))
    one_left = omega arith

    pub none_left : left ≡ [] → None ≡ first_numbers 10 all
    unfolding first_numbers
    none_left e = sym (v.made ∙ rw (e, one_left))

    module _ (f : List ℕ) (later : List (List ℕ)) (e : left ≡ f ∷ later) where
      pub no_number : read_hex f ≡ None → None ≡ first_numbers 10 all
      unfolding first_numbers is_number
      no_number p = sym (v.made ∙ rw (e, one_left, p))

      pub reads : (b : ℕ) (x : Float) → read_hex f ≡ Some b → x ≡ of_bits binary64 b → Reading all later (set xs i x) (i + 1)
      unfolding first_numbers is_number number
      reads b x p q =
          let s : take (suc i) (set xs i x) ≡ take i xs ++ (x ∷ []) = take-suc-set xs i x (omega (arith, v.whole)) in
          record {
            whole = length-set xs i x ∙ v.whole;
            rest = ap (drop 1) (sym e ∙ v.rest) ∙ drop-drop 1 i all;
            made = v.made ∙ rw (e, one_left, p) (one_more (take i xs) (take (i + 1) (set xs i x)) (of_bits binary64 b) _ (rw (add-one, ← q) s));
          }
