-- A good coordinate is finite, and not above 1e8 in size: document 02's words.
use mathlib.Core.Path.{◌≡◌, refl, sym, ap, ◌∙◌}
use mathlib.Core.Bool.{Bool, true, false, not, ◌&&◌, ◌||◌}
use Prim.Native.Nat.{ℕ, ◌+◌, ◌*◌, ◌<◌}
use native.Mathlib.Omega.{arith}
use lib.IntN.{ℤ}
use lib.Dec.{eqb, ltb}
use borrow.Author.Tests.{ltb-true, ltb-false, lt-ltb, le-ltb, eq-eqb, ne_eqb}
use lib.Ieee.{Float, nan, inf, fin, lt, le, eq, neg, of_bits, up, down}
use lib.Ieee.Scale.{finite}
use lib.Ieee.Fits.{down_pos}
use Rattle.float.specs.Operators.{◌≺◌}
use Rattle.float.specs.Sign.{negative, abs}
use Rattle.nearest.specs.Nearest.{FARTHEST, coordinate}

-- b is at most a exactly where a is not below it; `same` says whether they are equal
at_most : (a b : ℕ) (same : Bool) → (a ≡ b → same ≡ true) → ((a ≡ b → ⊥) → same ≡ false) → (ltb b a || (same && true)) ≡ not (ltb a b)
at_most a b same is differs = go (ltb a b) refl
  where
    equal : (t : Bool) → ltb b a ≡ t → ltb a b ≡ false → (t || (same && true)) ≡ true
    equal true e f = refl
    equal false e f = ap (λ x. x && true) (is (omega (arith, ltb-false b a e, ltb-false a b f)))

    more : a < b → (ltb b a || (same && true)) ≡ false
    more h = rw (le-ltb b a (omega arith), differs (λ e. absurd (omega arith))) refl

    go : (t : Bool) → ltb a b ≡ t → (ltb b a || (same && true)) ≡ not t
    go true e = more (ltb-true a b e)
    go false e = equal (ltb b a) refl e

-- 1e8 in the units in which it is compared is above 0
above : (e : ℤ) → 0 < 100000000 * down e
above e =
    let h = down_pos e in
    omega arith

pub coordinate_says : (x : Float) → coordinate x ≡ (finite x && not (FARTHEST ≺ abs x))
unfolding coordinate abs negative lt le eq neg of_bits
coordinate_says nan = refl
coordinate_says (inf true) = refl
coordinate_says (inf false) = refl
coordinate_says (fin false m e) =
    let a = 100000000 * down e in
    let b = m * up e * 1 in
    let h = above e in
    ap (λ t. (t || (eqb a b && (false || eqb a 0))) && (ltb b a || (eqb b a && true))) (lt-ltb 0 (a + b) (omega arith))
    ∙ at_most a b (eqb b a) (λ q. eq-eqb b a (sym q)) (λ q. ne_eqb b a (λ r. q (sym r)))
coordinate_says (fin true m e) =
    let a = 100000000 * down e in
    let b = m * up e * 1 in
    let h = above e in
    ap (λ t. (ltb b a || (eqb a b && true)) && (t || (eqb b a && (false || eqb b 0)))) (lt-ltb 0 (b + a) (omega arith))
    ∙ whole (ltb b a || (eqb a b && true))
    ∙ at_most a b (eqb a b) (λ q. eq-eqb a b q) (λ q. ne_eqb a b q)
  where
    whole : (t : Bool) → (t && true) ≡ t
    whole true = refl
    whole false = refl
