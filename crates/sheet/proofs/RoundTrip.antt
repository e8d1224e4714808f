-- The digits of a pattern are read back as the pattern.
use Prim.Native.Nat.{ℕ, zero, suc, ◌+◌, ◌/◌, ◌%◌, ◌^◌, ◌<◌}
use mathlib.Core.Path.{◌≡◌, refl, ap, ◌∙◌}
use mathlib.Core.List.{List, [], ◌∷◌, ◌++◌, foldl}
use mathlib.Core.Bool.{Bool, true, false, cond}
use native.Mathlib.Omega.{arith}
use borrow.Author.Tests.{ltb-true, ltb-false, lt-ltb, eq-eqb}
use lib.Dec.{ltb}
use lib.ListN.{length}
use Rattle.std.proofs.Common.{Some}
use Rattle.std.specs.Prelude.{Option}
use Rattle.sheet.specs.Hex.{digit_value, with_digit, read_hex, glyph, digits}
use Rattle.sheet.proofs.Digits.{decimal, letter}
use Rattle.sheet.proofs.Stores.{digits_long}

value_glyph : (d : ℕ) → d < 16 → digit_value (glyph d) ≡ d
unfolding glyph
value_glyph d h = go (ltb d 10) refl
  where
    go : (b : Bool) → ltb d 10 ≡ b → digit_value (cond b (48 + d) (87 + d)) ≡ d
    go true e = let k : d < 10 = ltb-true d 10 e in decimal (48 + d) (omega arith) (omega arith) ∙ omega arith
    go false e = let k = ltb-false d 10 e in letter (87 + d) (omega arith) (omega arith) ∙ omega arith

one_more : (h : Option ℕ) (l : List ℕ) (b : ℕ) → foldl with_digit h (l ++ (b ∷ [])) ≡ with_digit (foldl with_digit h l) b
one_more h [] b = refl
one_more h (x ∷ l) b = one_more (with_digit h x) l b

read_digits : (k n : ℕ) → n < 16 ^ k → foldl with_digit (Some 0) (digits k n) ≡ Some n
unfolding digits
read_digits zero n h = let e : n ≡ 0 = omega arith in rw e
read_digits (suc k) n h =
    let q : n / 16 < 16 ^ k = omega arith in
    let d : n % 16 < 16 = omega arith in
    let v : digit_value (glyph (n % 16)) ≡ n % 16 = value_glyph (n % 16) d in
    one_more (Some 0) (digits k (n / 16)) (glyph (n % 16))
    ∙ rw (read_digits k (n / 16) q, v, lt-ltb (n % 16) 16 d) (ap Some (omega arith))

pub round_trip : (n : ℕ) → n < 2 ^ 64 → read_hex (digits 16 n) ≡ Some n
unfolding read_hex
round_trip n h = simp (eq-eqb (length (digits 16 n)) 16 (digits_long 16 n)) (read_digits 16 n h)
