-- The laws of runs of stores, `sets`, and of the texts of an answer line.
use Prim.Native.Nat.{ℕ, zero, suc, ◌+◌, ◌-◌, ◌/◌, ◌%◌, ◌<◌, ◌≤◌}
use mathlib.Core.Path.{◌≡◌, refl, sym, ap, ◌∙◌}
use mathlib.Core.List.{List, [], ◌∷◌, ◌++◌}
use native.Mathlib.Omega.{arith}
use native.Mathlib.Nat.{zero-add, add-zero}
use native.Mathlib.Numerals.{add-one}
use lib.ListN.{length, set, take, drop, length-append}
use lib.Seq.{sets, set_comm, length-sets, sets-eq, take-length}
use borrow.Author.Tests.{lt-ltb, le-ltb}
use lib.Ieee.{Float, to_bits, binary64}
use Rattle.sheet.specs.Hex.{glyph, digits}
use Rattle.sheet.specs.Written.{Written}
use Rattle.sheet.specs.AnswerLine.{decimal, bit_field, row}

pub sets_append : (l : List ℕ) (i : ℕ) (a b : List ℕ) → sets l i (a ++ b) ≡ sets (sets l i a) (i + length a) b
sets_append l i [] b = rw (add-zero i)
sets_append l i (x ∷ a) b =
    let e : suc i + length a ≡ i + suc (length a) = omega arith in
    sets_append (set l i x) (suc i) a b ∙ rw e

pub sets_snoc : (l : List ℕ) (i : ℕ) (a : List ℕ) (v : ℕ) → sets l i (a ++ (v ∷ [])) ≡ sets (set l (i + length a) v) i a
sets_snoc l i [] v = rw (add-zero i)
sets_snoc l i (x ∷ a) v =
    let e : suc i + length a ≡ i + suc (length a) = omega arith in
    let n : i ≡ i + suc (length a) → ⊥ = λ q. omega arith in
    sets_snoc (set l i x) (suc i) a v ∙ rw (e, set_comm l i (i + suc (length a)) x v n)

pub digits_long : (k n : ℕ) → length (digits k n) ≡ k
unfolding digits
digits_long zero n = refl
digits_long (suc k) n = simp length-append (rw (digits_long k (n / 16)) (omega arith))

-- one digit more is stored, from the last on
pub one_stored : (l : List ℕ) (at i n : ℕ) → 0 < i → sets l at (digits i n) ≡ sets (set l (at + (i - 1)) (glyph (n % 16))) at (digits (i - 1) (n / 16))
unfolding digits
one_stored l at i n h = go (i - 1) i (omega arith)
  where
    go : (k i : ℕ) → i ≡ suc k → sets l at (digits i n) ≡ sets (set l (at + k) (glyph (n % 16))) at (digits k (n / 16))
    go k i e = rw e (sets_snoc l at (digits k (n / 16)) (glyph (n % 16)) ∙ rw (digits_long k (n / 16)))

pub none_stored : (l : List ℕ) (at i n : ℕ) → i ≤ 0 → sets l at (digits i n) ≡ l
unfolding digits
none_stored l at i n h = let e : i ≡ 0 = omega arith in rw e

-- one text, then another
pub then : (l₀ l₁ l₂ a b : List ℕ) (at m r : ℕ) → Written l₀ at a m l₁ → Written l₁ m b r l₂ → Written l₀ at (a ++ b) r l₂
then l₀ l₁ l₂ a b at m r f g =
    record {
      place = simp length-append (omega (arith, f.place, g.place));
      within = omega (arith, g.within, ap length f.stored, length-sets l₀ at a);
      stored = rw (g.stored, f.stored, f.place) (sym (sets_append l₀ at a b));
    }

-- a text that is copied to the buffer's start
pub copied : (t l₀ l₁ : List ℕ) (w : ℕ) → length t ≤ length l₀ → w ≡ length t → l₁ ≡ take (length t) t ++ drop (length t) l₀ → Written l₀ 0 t w l₁
copied t l₀ l₁ w h e f = record { place = omega arith; within = omega arith; stored = f ∙ rw (take-length t) (sym (sets-eq t l₀ 0 (rw (zero-add (length t)) h) ∙ rw (zero-add (length t)))) }

-- the text lies within what the buffer then is
pub still_within : (l : List ℕ) (at : ℕ) (t : List ℕ) (r : ℕ) (l' : List ℕ) → Written l at t r l' → r ≤ length l'
still_within l at t r l' w = omega (arith, w.within, ap length w.stored, length-sets l at t)

-- ---- the texts of an answer line

module _ (n : ℕ) where
  pub one_digit : n < 10 → decimal n ≡ (48 + n) ∷ []
  unfolding decimal
  one_digit h = simp (lt-ltb _ _ h)

  pub two_digits : 10 ≤ n → n < 100 → decimal n ≡ (48 + n / 10) ∷ (48 + n % 10) ∷ []
  unfolding decimal
  two_digits h k = simp (le-ltb _ _ h, lt-ltb _ _ k)

  pub three_digits : 10 ≤ n → 100 ≤ n → decimal n ≡ (48 + n / 100) ∷ (48 + n / 10 % 10) ∷ (48 + n % 10) ∷ []
  unfolding decimal
  three_digits h k = simp (le-ltb _ _ h, le-ltb _ _ k)

pub three_stored : (l : List ℕ) (at a b c : ℕ) → set (set (set l at a) (at + 1) b) (at + 2) c ≡ sets l at (a ∷ b ∷ c ∷ [])
three_stored l at a b c = let e : at + 1 ≡ suc at = omega arith in let f : at + 2 ≡ suc (suc at) = omega arith in rw (e, f)

pub field_long : (x : Float) → length (bit_field x) ≡ 17
unfolding bit_field
field_long x = rw (digits_long 16 (to_bits binary64 x))

module _ (l l' : List ℕ) (at b : ℕ) (x : Float) where
  pub field_stored : at + 17 ≤ length l → b ≡ to_bits binary64 x → l' ≡ sets (set l at 44) (at + 1) (digits 16 b) → Written l at (bit_field x) (at + 17) l'
  unfolding bit_field
  field_stored h e f = record { place = omega (arith, digits_long 16 (to_bits binary64 x)); within = h; stored = rw (f, e, add-one) }

pub row_long : (n : ℕ) (p q : Float) → length (row n p q) ≡ length (decimal n) + 35
unfolding row
row_long n p q = simp length-append (omega (arith, field_long p, field_long q))

module _ (l₀ l₁ l₂ l₃ : List ℕ) (at w₁ w₂ w₃ n : ℕ) (p q : Float) where
  pub row_stored : Written l₀ at (decimal n) w₁ l₁ → Written l₁ w₁ (bit_field p) w₂ l₂ → Written l₂ w₂ (bit_field q) w₃ l₃ → w₃ + 1 ≤ length l₃
      → Written l₀ at (row n p q) (w₃ + 1) (set l₃ w₃ 10)
  unfolding row
  row_stored a b c h =
      then l₀ l₁ _ (decimal n) (bit_field p ++ (bit_field q ++ (10 ∷ []))) at w₁ _ a
      (then l₁ l₂ _ (bit_field p) (bit_field q ++ (10 ∷ [])) w₁ w₂ _ b
      (then l₂ l₃ _ (bit_field q) (10 ∷ []) w₂ w₃ _ c (record { place = refl; within = h; stored = refl })))
