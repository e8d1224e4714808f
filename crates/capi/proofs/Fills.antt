-- Three columns filled from the first place on: one place more, the end, and the whole.
use Prim.Native.Nat.{ℕ, ◌+◌, ◌<◌, ◌≤◌}
use mathlib.Core.Path.{◌≡◌, refl, sym, ◌∙◌}
use mathlib.Core.List.{List, [], ◌∷◌, map, append-nil}
use native.Mathlib.Omega.{arith}
use native.Mathlib.Numerals.{add-one}
use lib.ListN.{length, get_or, drop, set, length-set, length-map, drop_of_length-le}
use lib.Seq.{drop-cons, sets, sets-eq}
use lib.Ieee.{Float}
use Rattle.projection.specs.Answer.{Answer}
use Rattle.refusals.specs.Refusals.{number}
use Rattle.projection.specs.Results.{first_result, second_result}
use Rattle.capi.specs.Columns.{each}

module _ {A : Type 0} (part : Answer → A) (call : Float → Float → Answer) (us vs : List Float) (l : List A) (i : ℕ) where
  one_filled : (d : Float) → i < length us → i < length vs
      → sets l i (map part (each call (drop i us) (drop i vs)))
      ≡ sets (set l i (part (call (get_or us i d) (get_or vs i d)))) (i + 1) (map part (each call (drop (i + 1) us) (drop (i + 1) vs)))
  unfolding each
  one_filled d h k = rw (add-one, drop-cons us i d h, drop-cons vs i d k) refl

  none_left : length us ≤ i → sets l i (map part (each call (drop i us) (drop i vs))) ≡ l
  unfolding each
  none_left h = rw (drop_of_length-le us h) refl

each_long : (call : Float → Float → Answer) (us vs : List Float) → length vs ≡ length us → length (each call us vs) ≡ length us
unfolding each
each_long call [] vs e = refl
each_long call (u ∷ us) [] e = e
each_long call (u ∷ us) (v ∷ vs) e = let h : length vs ≡ length us = omega arith in rw (each_long call us vs h)

module _ {A : Type 0} (part : Answer → A) (call : Float → Float → Answer) (us vs : List Float) (l : List A) where
  all_filled : length vs ≡ length us → length l ≡ length us → sets l 0 (map part (each call us vs)) ≡ map part (each call us vs)
  all_filled e f =
      let n : length (map part (each call us vs)) ≡ length us = length-map (each call us vs) part ∙ each_long call us vs e in
      let h : 0 + length (map part (each call us vs)) ≤ length l = omega arith in
      let k : length l ≤ 0 + length (map part (each call us vs)) = omega arith in
      sets-eq (map part (each call us vs)) l 0 h ∙ rw (drop_of_length-le l k) (append-nil (map part (each call us vs)))

-- The loop's invariant: with what is still to be stored from place i on, the columns are the answers'.
pub record Filling (call : Float → Float → Answer) (us vs ps qs : List Float) (ns : List ℕ) (i : ℕ) : Type 0 where
  pub v_long : length vs ≡ length us
  pub p_long : length ps ≡ length us
  pub q_long : length qs ≡ length us
  pub n_long : length ns ≡ length us
  pub firsts : sets ps i (map first_result (each call (drop i us) (drop i vs))) ≡ map first_result (each call us vs)
  pub seconds : sets qs i (map second_result (each call (drop i us) (drop i vs))) ≡ map second_result (each call us vs)
  pub numbers : sets ns i (map number (each call (drop i us) (drop i vs))) ≡ map number (each call us vs)

module _ (call : Float → Float → Answer) (us vs ps qs : List Float) (ns : List ℕ) where
  pub starts : length vs ≡ length us → length ps ≡ length us → length qs ≡ length us → length ns ≡ length us → Filling call us vs ps qs ns 0
  starts e p q n =
      record {
        v_long = e;
        p_long = p;
        q_long = q;
        n_long = n;
        firsts = all_filled first_result call us vs ps e p;
        seconds = all_filled second_result call us vs qs e q;
        numbers = all_filled number call us vs ns e n;
      }

  module _ (i : ℕ) (r : Filling call us vs ps qs ns i) where
    pub goes_on : (d : Float) (both : Float × Float) (n : ℕ) (a : Answer) → i < length us → a ≡ call (get_or us i d) (get_or vs i d)
        → both ≡ (first_result a, second_result a) → n ≡ number a → Filling call us vs (set ps i both.0) (set qs i both.1) (set ns i n) (i + 1)
    goes_on d both n a h e f k =
        let m : i < length vs = omega (arith, r.v_long) in
        record {
          v_long = r.v_long;
          p_long = length-set ps i both.0 ∙ r.p_long;
          q_long = length-set qs i both.1 ∙ r.q_long;
          n_long = length-set ns i n ∙ r.n_long;
          firsts = rw (f, e) (sym (one_filled first_result call us vs ps i d h m) ∙ r.firsts);
          seconds = rw (f, e) (sym (one_filled second_result call us vs qs i d h m) ∙ r.seconds);
          numbers = rw (k, e) (sym (one_filled number call us vs ns i d h m) ∙ r.numbers);
        }

    pub ends : length us ≤ i → (ps ≡ map first_result (each call us vs)) × (qs ≡ map second_result (each call us vs)) × (ns ≡ map number (each call us vs))
    ends h =
        (sym (none_left first_result call us vs ps i h) ∙ r.firsts, sym (none_left second_result call us vs qs i h) ∙ r.seconds, sym (none_left number call us vs ns i h) ∙ r.numbers)
