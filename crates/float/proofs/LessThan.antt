-- Floats that are no NaN are in an order by `lt`, and where neither of two is below the other they are equal.
use mathlib.Core.Path.{◌≡◌, refl, sym, ap, ◌∙◌}
use mathlib.Core.Bool.{Bool, true, false, not, ◌&&◌, ◌||◌, beq, true≢false}
use Prim.Native.Nat.{ℕ, zero, suc, ◌+◌, ◌*◌, ◌<◌, ◌≤◌}
use native.Mathlib.Omega.{arith}
use native.Mathlib.Nat.{suc-mul, zero-mul}
use lib.Dec.{eqb}
use borrow.Author.Tests.{ltb-true, ltb-false, le-ltb, eq-eqb, eqb-true}
use lib.Ieee.{Float, nan, inf, fin, is_nan, lt, le, eq, below, level, up, down}
use lib.Ieee.Fits.{down_pos}
use lib.Ieee.Positive.{through}

-- ---- order on signed fractions A / a, with a above 0

below_asym : (s t : Bool) (x y : ℕ) → below s x t y ≡ true → below t y s x ≡ false
below_asym false false x y h = le-ltb y x (omega (arith, ltb-true x y h))
below_asym false true x y h = absurd (true≢false (sym h))
below_asym true false x y h = refl
below_asym true true x y h = le-ltb x y (omega (arith, ltb-true y x h))

pub lt_asym : (x y : Float) → lt x y ≡ true → lt y x ≡ false
unfolding lt
lt_asym nan y h = absurd (true≢false (sym h))
lt_asym (inf s) nan h = refl
lt_asym (inf false) (inf t) h = absurd (true≢false (sym h))
lt_asym (inf true) (inf true) h = absurd (true≢false (sym h))
lt_asym (inf true) (inf false) h = refl
lt_asym (inf true) (fin t n d) h = refl
lt_asym (inf false) (fin t n d) h = absurd (true≢false (sym h))
lt_asym (fin s m e) nan h = refl
lt_asym (fin s m e) (inf true) h = absurd (true≢false (sym h))
lt_asym (fin s m e) (inf false) h = refl
lt_asym (fin s m e) (fin t n d) h = below_asym s t (m * up e * down d) (n * up d * down e) h

zero_of_mul : (x y : ℕ) → 0 < y → x * y ≡ 0 → x ≡ 0
zero_of_mul zero y h e = refl
zero_of_mul (suc x) y h e = absurd (omega (arith, suc-mul x y))

zero_mul' : (x y : ℕ) → x ≡ 0 → x * y ≡ 0
zero_mul' x y e = rw e (zero-mul y)

below_through : (s t u : Bool) (A a B b C c : ℕ) → 0 < a → 0 < b → 0 < c
    → below s (A * b) t (B * a) ≡ false → below t (B * c) u (C * b) ≡ false → below s (A * c) u (C * a) ≡ false
below_through false false false A a B b C c ha hb hc p q =
    le-ltb (A * c) (C * a) (through C B A c b a hb (ltb-false (B * c) (C * b) q) (ltb-false (A * b) (B * a) p))
below_through false false true A a B b C c ha hb hc p q = refl
below_through false true true A a B b C c ha hb hc p q = refl
below_through false true false A a B b C c ha hb hc p q =
    let h = ltb-false 0 (B * c + C * b) q in
    let z = zero_of_mul C b hb (omega arith) in
    le-ltb (A * c) (C * a) (omega (arith, zero_mul' C a z))
below_through true false false A a B b C c ha hb hc p q =
    let h = ltb-false 0 (A * b + B * a) p in
    let z = zero_of_mul A b hb (omega arith) in
    let y = zero_of_mul B a ha (omega arith) in
    let g = ltb-false (B * c) (C * b) q in
    let v = zero_of_mul C b hb (omega (arith, zero_mul' B c y)) in
    le-ltb 0 (A * c + C * a) (omega (arith, zero_mul' A c z, zero_mul' C a v))
below_through true false true A a B b C c ha hb hc p q =
    let h = ltb-false 0 (A * b + B * a) p in
    let z = zero_of_mul A b hb (omega arith) in
    le-ltb (C * a) (A * c) (omega (arith, zero_mul' A c z))
below_through true true false A a B b C c ha hb hc p q =
    let h = ltb-false 0 (B * c + C * b) q in
    let v = zero_of_mul C b hb (omega arith) in
    let y = zero_of_mul B c hc (omega arith) in
    let g = ltb-false (B * a) (A * b) p in
    let z = zero_of_mul A b hb (omega (arith, zero_mul' B a y)) in
    le-ltb 0 (A * c + C * a) (omega (arith, zero_mul' A c z, zero_mul' C a v))
below_through true true true A a B b C c ha hb hc p q =
    le-ltb (C * a) (A * c) (through A B C a b c hb (ltb-false (B * a) (A * b) p) (ltb-false (C * b) (B * c) q))

-- where y is no NaN
pub lt_through : (x y z : Float) → is_nan y ≡ false → lt x y ≡ false → lt y z ≡ false → lt x z ≡ false
unfolding lt is_nan
lt_through nan y z h p q = refl
lt_through (inf s) nan z h p q = absurd (true≢false h)
lt_through (inf s) (inf t) nan h p q = refl
lt_through (inf false) (inf t) (inf u) h p q = refl
lt_through (inf true) (inf true) (inf u) h p q = q
lt_through (inf true) (inf false) (inf u) h p q = absurd (true≢false p)
lt_through (inf false) (inf t) (fin u n d) h p q = refl
lt_through (inf true) (inf true) (fin u n d) h p q = q
lt_through (inf true) (inf false) (fin u n d) h p q = absurd (true≢false p)
lt_through (inf s) (fin t n d) nan h p q = refl
lt_through (inf false) (fin t n d) (inf u) h p q = refl
lt_through (inf true) (fin t n d) (inf u) h p q = absurd (true≢false p)
lt_through (inf false) (fin t n d) (fin u k f) h p q = refl
lt_through (inf true) (fin t n d) (fin u k f) h p q = absurd (true≢false p)
lt_through (fin s m e) nan z h p q = absurd (true≢false h)
lt_through (fin s m e) (inf t) nan h p q = refl
lt_through (fin s m e) (inf true) (inf true) h p q = refl
lt_through (fin s m e) (inf true) (inf false) h p q = absurd (true≢false q)
lt_through (fin s m e) (inf false) (inf u) h p q = absurd (true≢false p)
lt_through (fin s m e) (inf true) (fin u k f) h p q = absurd (true≢false q)
lt_through (fin s m e) (inf false) (fin u k f) h p q = absurd (true≢false p)
lt_through (fin s m e) (fin t n d) nan h p q = refl
lt_through (fin s m e) (fin t n d) (inf u) h p q = q
lt_through (fin s m e) (fin t n d) (fin u k f) h p q =
    below_through s t u (m * up e) (down e) (n * up d) (down d) (k * up f) (down f) (down_pos e) (down_pos d) (down_pos f) p q

-- ---- equal where neither is below the other

level_of : (s t : Bool) (a b : ℕ) → below s a t b ≡ false → below t b s a ≡ false → level s a t b ≡ true
level_of false false a b p q = ap (λ x. x && true) (eq-eqb a b (omega (arith, ltb-false a b p, ltb-false b a q)))
level_of false true a b p q = both (ltb-false 0 (b + a) q)
  where
    both : b + a ≤ 0 → (eqb a b && (false || eqb a 0)) ≡ true
    both h = rw (eq-eqb a b (omega arith), eq-eqb a 0 (omega arith)) refl
level_of true false a b p q = both (ltb-false 0 (a + b) p)
  where
    both : a + b ≤ 0 → (eqb a b && (false || eqb a 0)) ≡ true
    both h = rw (eq-eqb a b (omega arith), eq-eqb a 0 (omega arith)) refl
level_of true true a b p q = ap (λ x. x && true) (eq-eqb a b (omega (arith, ltb-false b a p, ltb-false a b q)))

pub neither_below : (x y : Float) → is_nan x ≡ false → is_nan y ≡ false → lt x y ≡ false → lt y x ≡ false → eq x y ≡ true
unfolding lt eq is_nan
neither_below nan y h k p q = absurd (true≢false h)
neither_below (inf s) nan h k p q = absurd (true≢false k)
neither_below (inf true) (inf true) h k p q = refl
neither_below (inf true) (inf false) h k p q = absurd (true≢false p)
neither_below (inf false) (inf true) h k p q = absurd (true≢false q)
neither_below (inf false) (inf false) h k p q = refl
neither_below (inf true) (fin t n d) h k p q = absurd (true≢false p)
neither_below (inf false) (fin t n d) h k p q = absurd (true≢false q)
neither_below (fin s m e) nan h k p q = absurd (true≢false k)
neither_below (fin s m e) (inf true) h k p q = absurd (true≢false q)
neither_below (fin s m e) (inf false) h k p q = absurd (true≢false p)
neither_below (fin s m e) (fin t n d) h k p q = level_of s t (m * up e * down d) (n * up d * down e) p q

level_back : (s t : Bool) (a b : ℕ) → level s a t b ≡ true → below t b s a ≡ false
level_back s t a b h = go s t (eqb a b) (eqb a 0) refl refl h
  where
    go : (s t x z : Bool) → eqb a b ≡ x → eqb a 0 ≡ z → (x && (beq s t || z)) ≡ true → below t b s a ≡ false
    go s t false z e f h = absurd (true≢false (sym h))
    go false false true z e f h = le-ltb b a (omega (arith, eqb-true a b e))
    go true false true z e f h = refl
    go false true true true e f h = le-ltb 0 (b + a) (omega (arith, eqb-true a b e, eqb-true a 0 f))
    go false true true false e f h = absurd (true≢false (sym h))
    go true true true z e f h = le-ltb a b (omega (arith, eqb-true a b e))

level_apart : (s t : Bool) (a b : ℕ) → level s a t b ≡ true → below s a t b ≡ false
level_apart s t a b h = go s t (eqb a b) (eqb a 0) refl refl h
  where
    go : (s t x z : Bool) → eqb a b ≡ x → eqb a 0 ≡ z → (x && (beq s t || z)) ≡ true → below s a t b ≡ false
    go s t false z e f h = absurd (true≢false (sym h))
    go false false true z e f h = le-ltb a b (omega (arith, eqb-true a b e))
    go false true true z e f h = refl
    go true false true true e f h = le-ltb 0 (a + b) (omega (arith, eqb-true a b e, eqb-true a 0 f))
    go true false true false e f h = absurd (true≢false (sym h))
    go true true true z e f h = le-ltb b a (omega (arith, eqb-true a b e))

pub equal_apart : (x y : Float) → eq x y ≡ true → lt x y ≡ false
unfolding lt eq
equal_apart nan y h = absurd (true≢false (sym h))
equal_apart (inf s) nan h = absurd (true≢false (sym h))
equal_apart (inf true) (inf true) h = refl
equal_apart (inf true) (inf false) h = absurd (true≢false (sym h))
equal_apart (inf false) (inf t) h = refl
equal_apart (inf s) (fin t n d) h = absurd (true≢false (sym h))
equal_apart (fin s m e) nan h = absurd (true≢false (sym h))
equal_apart (fin s m e) (inf t) h = absurd (true≢false (sym h))
equal_apart (fin s m e) (fin t n d) h = level_apart s t (m * up e * down d) (n * up d * down e) h

pub equal_apart_too : (x y : Float) → eq x y ≡ true → lt y x ≡ false
unfolding lt eq
equal_apart_too nan y h = absurd (true≢false (sym h))
equal_apart_too (inf s) nan h = refl
equal_apart_too (inf true) (inf true) h = refl
equal_apart_too (inf true) (inf false) h = absurd (true≢false (sym h))
equal_apart_too (inf false) (inf true) h = absurd (true≢false (sym h))
equal_apart_too (inf false) (inf false) h = refl
equal_apart_too (inf s) (fin t n d) h = absurd (true≢false (sym h))
equal_apart_too (fin s m e) nan h = refl
equal_apart_too (fin s m e) (inf t) h = absurd (true≢false (sym h))
equal_apart_too (fin s m e) (fin t n d) h = level_back s t (m * up e * down d) (n * up d * down e) h

-- ---- above is not at most

pub above_or_not : (x y : Float) → is_nan x ≡ false → is_nan y ≡ false → lt y x ≡ not (le x y)
unfolding le
above_or_not x y h k = go (lt y x) (lt x y) (eq x y) refl refl refl
  where
    go : (a b e : Bool) → lt y x ≡ a → lt x y ≡ b → eq x y ≡ e → a ≡ not (b || e)
    go true true e p q r = absurd (true≢false (sym q ∙ lt_asym y x p))
    go true false true p q r = absurd (true≢false (sym p ∙ equal_apart_too x y r))
    go true false false p q r = refl
    go false true e p q r = refl
    go false false true p q r = refl
    go false false false p q r = absurd (true≢false (sym (neither_below x y h k q p) ∙ r))
