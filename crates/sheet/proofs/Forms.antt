-- What the reader's steps find of a line's fields is what the line says.
use Rattle.std.proofs.Common.{◌≡◌, ℕ, zero, suc, List, [], ◌∷◌, Bool, true, false, cond, ◌&&◌, length, drop, get_or, map, Some, None, refl, ap, sym, ◌∙◌, arith, ne_eqb}
use borrow.Author.Tests.{eqb-true}
use Rattle.std.specs.Prelude.{Option, eqb, Float}
use lib.Ieee.{nan}
use Rattle.std.proofs.lemmas.Bool.Decides.{nat_tests}
use Rattle.std.specs.Option.{option_map}
use Rattle.std.specs.Result.{result_ok}
use Rattle.letters.specs.Ascii.{ascii}
use Rattle.letters.specs.declared.Way.{Way}
use Rattle.letters.specs.declared.Kind.{Kind}
use Rattle.letters.specs.Letters.{one_of, is_way, is_kind, way_of, kind_of, way_from, kind_from}
use Rattle.sheet.specs.Fields.{fields, field}
use Rattle.sheet.specs.ValueLine.{letter, is_number, number, all_numbers, has_form, read_values, read_line, first_letter, first_numbers}
use Rattle.sheet.specs.declared.value_line.Values.{Values}

-- ---- the steps, one after the other

abbrev values : Way → Kind → List Float → Values
values w k xs =
    record {
      way = w;
      kind = k;
      a = get_or xs 0 nan;
      f = get_or xs 1 nan;
      settings =
          record {
            lon0 = get_or xs 2 nan;
            lat0 = get_or xs 3 nan;
            lat1 = get_or xs 4 nan;
            lat2 = get_or xs 5 nan;
            false_easting = get_or xs 6 nan;
            false_northing = get_or xs 7 nan;
          };
      u = get_or xs 8 nan;
      v = get_or xs 9 nan;
    }

-- the numbers, where no field is left
abbrev at_end : Option (List Float) → List (List ℕ) → Option (List Float)
at_end None fs = None
at_end (Some xs) [] = Some xs
at_end (Some xs) (f ∷ fs) = None

abbrev with_kind : Way → Option Kind → List (List ℕ) → Option Values
with_kind w None fs = None
with_kind w (Some k) fs = option_map (values w k) (at_end (first_numbers 10 fs) (drop 10 fs))

abbrev with_second : Way → Option ℕ → List (List ℕ) → Option Values
with_second w None fs = None
with_second w (Some b) fs = with_kind w (result_ok (kind_from b)) fs

abbrev with_way : Option Way → List (List ℕ) → Option Values
with_way None fs = None
with_way (Some w) fs = with_second w (first_letter fs) (drop 1 fs)

abbrev with_first : Option ℕ → List (List ℕ) → Option Values
with_first None fs = None
with_first (Some b) fs = with_way (result_ok (way_from b)) fs

-- ---- and what they give

same_suc : (a n : ℕ) → eqb (suc a) (suc n) ≡ eqb a n
same_suc a n = grind (arith, nat_tests)

exact : (n : ℕ) (fs : List (List ℕ)) → at_end (first_numbers n fs) (drop n fs) ≡ cond (eqb (length fs) n && all_numbers fs) (Some (map number fs)) None
unfolding first_numbers all_numbers
exact zero [] = refl
exact zero (f ∷ fs) = let e : eqb (suc (length fs)) 0 ≡ false = ne_eqb _ _ (λ (n : suc (length fs) ≡ 0). omega arith) in rw e
exact (suc n) [] = let e : eqb 0 (suc n) ≡ false = ne_eqb _ _ (λ (z : 0 ≡ suc n). omega arith) in rw e
exact (suc n) (f ∷ fs) = rw (same_suc (length fs) n) (go (is_number f) (eqb (length fs) n) (all_numbers fs) (first_numbers n fs) (drop n fs) (exact n fs))
  where
    go : (g e a : Bool) (r : Option (List Float)) (d : List (List ℕ)) → at_end r d ≡ cond (e && a) (Some (map number fs)) None
        → at_end (cond g (option_map (λ xs. number f ∷ xs) r) None) d ≡ cond (e && (g && a)) (Some (number f ∷ map number fs)) None
    go false true a r d h = refl
    go false false a r d h = refl
    go true e a None d h = more e a h
      where
        more : (e a : Bool) → None ≡ cond (e && a) (Some (map number fs)) None → None ≡ cond (e && a) (Some (number f ∷ map number fs)) None
        more true true h = cc
        more true false h = refl
        more false a h = refl
    go true e a (Some xs) [] h = more e a h
      where
        more : (e a : Bool) → Some xs ≡ cond (e && a) (Some (map number fs)) None → Some (number f ∷ xs) ≡ cond (e && a) (Some (number f ∷ map number fs)) None
        more true true h = cc
        more true false h = cc
        more false a h = cc
    go true e a (Some xs) (y ∷ d) h = more e a h
      where
        more : (e a : Bool) → None ≡ cond (e && a) (Some (map number fs)) None → None ≡ cond (e && a) (Some (number f ∷ map number fs)) None
        more true true h = cc
        more true false h = refl
        more false a h = refl

abbrev said : Way → Kind → List (List ℕ) → Values
said w k fs =
    record {
      way = w;
      kind = k;
      a = number (get_or fs 0 []);
      f = number (get_or fs 1 []);
      settings =
          record {
            lon0 = number (get_or fs 2 []);
            lat0 = number (get_or fs 3 []);
            lat1 = number (get_or fs 4 []);
            lat2 = number (get_or fs 5 []);
            false_easting = number (get_or fs 6 []);
            false_northing = number (get_or fs 7 []);
          };
      u = number (get_or fs 8 []);
      v = number (get_or fs 9 []);
    }

ten : (w : Way) (k : Kind) (fs : List (List ℕ)) → length fs ≡ 10 → values w k (map number fs) ≡ said w k fs
ten w k [] e = absurd (omega arith)
ten w k (a ∷ []) e = absurd (omega arith)
ten w k (a ∷ f ∷ []) e = absurd (omega arith)
ten w k (a ∷ f ∷ b ∷ []) e = absurd (omega arith)
ten w k (a ∷ f ∷ b ∷ c ∷ []) e = absurd (omega arith)
ten w k (a ∷ f ∷ b ∷ c ∷ d ∷ []) e = absurd (omega arith)
ten w k (a ∷ f ∷ b ∷ c ∷ d ∷ g ∷ []) e = absurd (omega arith)
ten w k (a ∷ f ∷ b ∷ c ∷ d ∷ g ∷ h ∷ []) e = absurd (omega arith)
ten w k (a ∷ f ∷ b ∷ c ∷ d ∷ g ∷ h ∷ i ∷ []) e = absurd (omega arith)
ten w k (a ∷ f ∷ b ∷ c ∷ d ∷ g ∷ h ∷ i ∷ u ∷ []) e = absurd (omega arith)
ten w k (a ∷ f ∷ b ∷ c ∷ d ∷ g ∷ h ∷ i ∷ u ∷ v ∷ fs) e = refl

numbers : (w : Way) (k : Kind) (fs : List (List ℕ))
    → option_map (values w k) (at_end (first_numbers 10 fs) (drop 10 fs)) ≡ cond (eqb (length fs) 10 && all_numbers fs) (Some (said w k fs)) None
numbers w k fs = rw (exact 10 fs) (go (eqb (length fs) 10) (all_numbers fs) refl)
  where
    go : (e a : Bool) → eqb (length fs) 10 ≡ e → option_map (values w k) (cond (e && a) (Some (map number fs)) None) ≡ cond (e && a) (Some (said w k fs)) None
    go true true p = ap Some (ten w k fs (eqb-true _ _ p))
    go true false p = refl
    go false a p = refl

abbrev form : List (List ℕ) → Bool
form fs = eqb (length fs) 12 && is_way (letter (get_or fs 0 [])) && is_kind (letter (get_or fs 1 [])) && all_numbers (drop 2 fs)

abbrev all_said : List (List ℕ) → Values
all_said fs =
    record {
      way = way_of (letter (get_or fs 0 []));
      kind = kind_of (letter (get_or fs 1 []));
      a = number (get_or fs 2 []);
      f = number (get_or fs 3 []);
      settings =
          record {
            lon0 = number (get_or fs 4 []);
            lat0 = number (get_or fs 5 []);
            lat1 = number (get_or fs 6 []);
            lat2 = number (get_or fs 7 []);
            false_easting = number (get_or fs 8 []);
            false_northing = number (get_or fs 9 []);
          };
      u = number (get_or fs 10 []);
      v = number (get_or fs 11 []);
    }

abbrev line : List (List ℕ) → Option Values
line fs = cond (form fs) (Some (all_said fs)) None

no_way : {A : Type 0} (e k n : Bool) (x y : A) → cond (((e && false) && k) && n) x y ≡ y
no_way true k n x y = refl
no_way false k n x y = refl

no_kind : {A : Type 0} (e w n : Bool) (x y : A) → cond (((e && w) && false) && n) x y ≡ y
no_kind true true n x y = refl
no_kind true false n x y = refl
no_kind false w n x y = refl

all_kinds : {A : Type 0} (e n : Bool) (x y : A) → cond (((e && true) && true) && n) x y ≡ cond (e && n) x y
all_kinds true n x y = refl
all_kinds false n x y = refl

no_letter : (f : List ℕ) → eqb (length f) 1 ≡ false → letter f ≡ 0
unfolding letter
no_letter f e = rw e

zero_way : is_way 0 ≡ false
unfolding is_way one_of ascii
zero_way = refl

zero_kind : is_kind 0 ≡ false
unfolding is_kind one_of ascii
zero_kind = refl

module _ (p : List ℕ) (way : is_way (letter p) ≡ true) where
  second : (fs : List (List ℕ)) → with_second (way_of (letter p)) (first_letter fs) (drop 1 fs) ≡ line (p ∷ fs)
  unfolding first_letter kind_from
  second [] = refl
  second (q ∷ fs) = go (eqb (length q) 1) refl
    where
      is_kind_of : (b : Bool) → is_kind (letter q) ≡ b → with_kind (way_of (letter p)) (result_ok (kind_from (letter q))) fs ≡ line (p ∷ q ∷ fs)
      is_kind_of false e = rw (e, no_kind (eqb (length (p ∷ q ∷ fs)) 12) (is_way (letter p)) (all_numbers fs))
      is_kind_of true e =
          rw (e, way, all_kinds (eqb (length (p ∷ q ∷ fs)) 12) (all_numbers fs), same_suc (suc (length fs)) 11, same_suc (length fs) 10)
          (numbers (way_of (letter p)) (kind_of (letter q)) fs)

      go : (b : Bool) → eqb (length q) 1 ≡ b → with_second (way_of (letter p)) (cond b (Some (letter q)) None) fs ≡ line (p ∷ q ∷ fs)
      go true e = is_kind_of (is_kind (letter q)) refl
      go false e = rw (no_letter q e, zero_kind, no_kind (eqb (length (p ∷ q ∷ fs)) 12) (is_way (letter p)) (all_numbers fs))

steps : (fs : List (List ℕ)) → with_first (first_letter fs) (drop 1 fs) ≡ line fs
unfolding first_letter way_from
steps [] = refl
steps (p ∷ fs) = go (eqb (length p) 1) refl
  where
    is_way_of : (b : Bool) → is_way (letter p) ≡ b → with_way (result_ok (way_from (letter p))) fs ≡ line (p ∷ fs)
    is_way_of false e = rw (e, no_way (eqb (length (p ∷ fs)) 12) (is_kind (letter (get_or fs 0 []))) (all_numbers (drop 1 fs)))
    is_way_of true e = let s = second p e fs in rw e (rw e at s)

    go : (b : Bool) → eqb (length p) 1 ≡ b → with_first (cond b (Some (letter p)) None) fs ≡ line (p ∷ fs)
    go true e = is_way_of (is_way (letter p)) refl
    go false e = rw (no_letter p e, zero_way, no_way (eqb (length (p ∷ fs)) 12) (is_kind (letter (get_or fs 0 []))) (all_numbers (drop 1 fs)))

read_by_steps : (l : List ℕ) → read_line l ≡ with_first (first_letter (fields l)) (drop 1 (fields l))
unfolding read_line has_form read_values field
read_by_steps l = sym (steps (fields l))

-- ---- the reader's way through a line, from what is left to what is left

module _ (l : List ℕ) {s₀ : List (List ℕ)} (all : s₀ ≡ fields l) where
  pub no_first : None ≡ first_letter s₀ → None ≡ read_line l
  no_first h = sym (read_by_steps l ∙ rw (← all, ← h))

  module _ {b : ℕ} {s₁ : List (List ℕ)} (first : Some b ≡ first_letter s₀) (after_first : s₁ ≡ drop 1 s₀) where
    with_b : read_line l ≡ with_way (result_ok (way_from b)) s₁
    with_b = read_by_steps l ∙ rw (← all, ← first, ← after_first)

    pub other_way : None ≡ result_ok (way_from b) → None ≡ read_line l
    other_way h = sym (with_b ∙ rw (← h))

    module _ {w : Way} (way : Some w ≡ result_ok (way_from b)) where
      with_w : read_line l ≡ with_second w (first_letter s₁) (drop 1 s₁)
      with_w = with_b ∙ rw (← way)

      pub no_second : None ≡ first_letter s₁ → None ≡ read_line l
      no_second h = sym (with_w ∙ rw (← h))

      module _ {d : ℕ} {s₂ : List (List ℕ)} (second_letter : Some d ≡ first_letter s₁) (after_second : s₂ ≡ drop 1 s₁) where
        with_d : read_line l ≡ with_kind w (result_ok (kind_from d)) s₂
        with_d = with_w ∙ rw (← second_letter, ← after_second)

        pub other_kind : None ≡ result_ok (kind_from d) → None ≡ read_line l
        other_kind h = sym (with_d ∙ rw (← h))

        module _ {k : Kind} (kind : Some k ≡ result_ok (kind_from d)) where
          with_k : read_line l ≡ option_map (values w k) (at_end (first_numbers 10 s₂) (drop 10 s₂))
          with_k = with_d ∙ rw (← kind)

          pub no_numbers : None ≡ first_numbers 10 s₂ → None ≡ read_line l
          no_numbers h = sym (with_k ∙ rw (← h))

          module _ {xs : List Float} {s₃ : List (List ℕ)} (read : Some xs ≡ first_numbers 10 s₂) (after_numbers : s₃ ≡ drop 10 s₂) where
            with_xs : read_line l ≡ option_map (values w k) (at_end (Some xs) s₃)
            with_xs = with_k ∙ rw (← read, ← after_numbers)

            pub field_left : {f : List ℕ} {later : List (List ℕ)} → s₃ ≡ f ∷ later → None ≡ read_line l
            field_left h = sym (with_xs ∙ rw h)

            pub whole : s₃ ≡ [] → Some (values w k xs) ≡ read_line l
            whole h = sym (with_xs ∙ rw h)
