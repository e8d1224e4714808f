-- The laws of `digit_value`, and the bound of a number of hexadecimal digits.
use Prim.Native.Nat.{ℕ, suc, ◌+◌, ◌-◌, ◌*◌, ◌^◌, ◌<◌, ◌≤◌}
use mathlib.Core.Path.{◌≡◌, refl, sym, ap, ◌∙◌}
use mathlib.Core.List.{List, [], ◌∷◌, foldl}
use mathlib.Core.Bool.{Bool, true, false, ◌&&◌}
use native.Mathlib.Omega.{arith}
use native.Mathlib.Numerals.{add-one}
use borrow.Author.Tests.{le-leb, leb-true, lt-ltb, le-ltb, eq-eqb, ne_eqb}
use lib.Dec.{leb}
use lib.Pow.{pow-add, pow_mono}
use lib.ListN.{length, drop, get_or, drop_of_length-le}
use lib.Seq.{drop-cons}
use Rattle.std.proofs.Common.{Some, None}
use Rattle.std.specs.Prelude.{Option}
use Rattle.sheet.specs.Hex.{digit_value, with_digit, read_hex}

outside : (a b : Bool) → (a ≡ true → b ≡ true → ⊥) → (a && b) ≡ false
outside true true h = absurd (h refl refl)
outside true false h = refl
outside false b h = refl

pub decimal : (b : ℕ) → 48 ≤ b → b ≤ 57 → digit_value b ≡ b - 48
unfolding digit_value
decimal b p q = simp (le-leb _ _ p, le-leb _ _ q)

not_decimal : (b : ℕ) → (48 ≤ b → b ≤ 57 → ⊥) → (leb 48 b && leb b 57) ≡ false
not_decimal b h = outside _ _ (λ p q. h (leb-true _ _ p) (leb-true _ _ q))

pub letter : (b : ℕ) → 97 ≤ b → b ≤ 102 → digit_value b ≡ b - 87
unfolding digit_value
letter b p q = simp (not_decimal b (λ h k. omega arith), le-leb _ _ p, le-leb _ _ q)

pub other : (b : ℕ) → (48 ≤ b → b ≤ 57 → ⊥) → (97 ≤ b → b ≤ 102 → ⊥) → digit_value b ≡ 16
unfolding digit_value
other b p q = simp (not_decimal b p, outside (leb 97 b) (leb b 102) (λ h k. q (leb-true _ _ h) (leb-true _ _ k)))

-- one digit more
pub wider : (i v d : ℕ) → v < 2 ^ (4 * i) → d < 16 → v * 16 + d < 2 ^ (4 * (i + 1))
wider i v d p q =
    let e : 4 * (i + 1) ≡ 4 * i + 4 = omega arith in
    rw (e, pow-add 2 (4 * i) 4) (omega arith)

pub narrow : (i v : ℕ) → v < 2 ^ (4 * i) → i < 16 → v < 2 ^ 60
narrow i v p q =
    let h : 4 * i ≤ 60 = omega arith in
    let m : 2 ^ (4 * i) ≤ 2 ^ 60 = pow_mono h in
    omega arith

pushed : (v b : ℕ) → digit_value b < 16 → with_digit (Some v) b ≡ Some (v * 16 + digit_value b)
pushed v b h = simp (lt-ltb (digit_value b) 16 h)

refused : (v b : ℕ) → 16 ≤ digit_value b → with_digit (Some v) b ≡ None
refused v b h = simp (le-ltb (digit_value b) 16 h)

-- the fold goes on past a digit, and stays at none past what is none
module _ (l : List ℕ) (i v : ℕ) (h : i < length l) where
  pub goes_on : digit_value (get_or l i 0) < 16 → foldl with_digit (Some v) (drop i l) ≡ foldl with_digit (Some (v * 16 + digit_value (get_or l i 0))) (drop (i + 1) l)
  goes_on k = rw (add-one, drop-cons l i 0) (ap (λ (x : Option ℕ). foldl with_digit x (drop (suc i) l)) (pushed v (get_or l i 0) k))

  stays : (m : List ℕ) → foldl with_digit None m ≡ None
  stays [] = refl
  stays (x ∷ m) = stays m

  pub goes_bad : 16 ≤ digit_value (get_or l i 0) → foldl with_digit (Some v) (drop i l) ≡ None
  goes_bad k = rw (drop-cons l i 0) (ap (λ (x : Option ℕ). foldl with_digit x (drop (suc i) l)) (refused v (get_or l i 0) k) ∙ stays (drop (suc i) l))

-- The loop's invariant: v is the number of the first i digits.
pub record Reading (l : List ℕ) (v i : ℕ) : Type 0 where
  pub within : i ≤ 16
  pub whole : length l ≡ 16
  pub small : v < 2 ^ (4 * i)
  pub rest : foldl with_digit (Some v) (drop i l) ≡ read_hex l

pub starts : (l : List ℕ) → length l ≡ 16 → Reading l 0 0
unfolding read_hex
starts l e = record { within = omega arith; whole = e; small = omega arith; rest = simp (eq-eqb _ _ e) }

pub long : (l : List ℕ) → (length l ≡ 16 → ⊥) → read_hex l ≡ None
unfolding read_hex
long l e = simp (ne_eqb _ _ e)

module _ (l : List ℕ) (v i d : ℕ) (r : Reading l v i) (inside : i < length l) (e : d ≡ digit_value (get_or l i 0)) where
  h : i < 16
  h = omega (arith, r.whole)

  pub reads : d < 16 → Reading l (v * 16 + d) (i + 1)
  reads k =
      record {
        within = omega arith;
        whole = r.whole;
        small = wider i v d r.small k;
        rest = rw e (sym (goes_on l i v inside (rw e at k)) ∙ r.rest);
      }

  pub refuses : 16 ≤ d → read_hex l ≡ None
  refuses k = sym r.rest ∙ goes_bad l i v inside (rw e at k)

pub ends : (l : List ℕ) (v i : ℕ) → Reading l v i → length l ≤ i → read_hex l ≡ Some v
ends l v i r k =
    let n : drop i l ≡ [] = drop_of_length-le l k in
    sym r.rest ∙ rw n
