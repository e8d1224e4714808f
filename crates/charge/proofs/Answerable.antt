-- What the code tests is what document 02 refuses.
use Rattle.std.proofs.Common.{◌≡◌, ℕ, ◌<◌, ◌≤◌, Bool, true, false, not, ◌&&◌, ◌||◌, eqb, ltb, leb, sym, refl, true≢false, arith, le-ltb, lt-ltb, eq-eqb, ne_eqb, le-leb, leb-false, leb-true}
use lib.Ieee.{Float, nan, inf, fin, is_nan, lt, le, eq, of_bits}
use lib.Ieee.Scale.{finite}
use Rattle.float.specs.Constants.{+0}
use Rattle.float.specs.Operators.{◌≺◌, ◌≼◌}
use Rattle.float.proofs.LessThan.{above_or_not}
use Rattle.charge.specs.Charge.{FARTHEST, refused}

above : (a b : ℕ) → ltb b a ≡ not (leb a b)
above a b = go (leb a b) refl
  where
    go : (t : Bool) → leb a b ≡ t → ltb b a ≡ not t
    go true e = le-ltb b a (leb-true a b e)
    go false e = lt-ltb b a (leb-false a b e)

none : (n : ℕ) → eqb n 0 ≡ not (leb 1 n)
none n = go (leb 1 n) refl
  where
    go : (t : Bool) → leb 1 n ≡ t → eqb n 0 ≡ not t
    go true e = ne_eqb n 0 (λ z. omega (arith, leb-true 1 n e))
    go false e = eq-eqb n 0 (omega (arith, leb-false 1 n e))

-- a distance is never below 0, so one comparison is enough
too_far : (d : Float) → (d ≺ +0) ≡ false → (not (finite d) || (FARTHEST ≺ d)) ≡ not (d ≼ FARTHEST)
unfolding lt le eq of_bits is_nan
too_far nan h = refl
too_far (inf true) h = absurd (true≢false h)
too_far (inf false) h = refl
too_far (fin s m e) h = above_or_not (fin s m e) FARTHEST refl refl

-- the code's test
abbrev pub good : Float → ℕ → ℕ → Bool
good d rate children = ((leb rate 1000000 && leb 1 children) && leb children 60) && (d ≼ FARTHEST)

pub answerable : (d : Float) (rate children : ℕ) → (d ≺ +0) ≡ false → refused d rate children ≡ not (good d rate children)
unfolding refused
answerable d rate children h =
    rw (above rate 1000000, none children, above children 60, too_far d h) (go (leb rate 1000000) (leb 1 children) (leb children 60) (d ≼ FARTHEST))
  where
    go : (a b c e : Bool) → ((not a || (not b || not c)) || not e) ≡ not (((a && b) && c) && e)
    go false b c e = refl
    go true false c e = refl
    go true true false e = refl
    go true true true e = refl

-- what holds where it passes
pub record Good (d : Float) (rate children : ℕ) : Type 0 where
  pub rate_low : rate ≤ 1000000
  pub some : 0 < children
  pub few : children ≤ 60
  pub near : (d ≼ FARTHEST) ≡ true

pub good_says : (d : Float) (rate children : ℕ) → good d rate children ≡ true → Good d rate children
good_says d rate children h = go (leb rate 1000000) (leb 1 children) (leb children 60) (d ≼ FARTHEST) refl refl refl refl h
  where
    go : (a b c e : Bool) → leb rate 1000000 ≡ a → leb 1 children ≡ b → leb children 60 ≡ c → (d ≼ FARTHEST) ≡ e → (((a && b) && c) && e) ≡ true → Good d rate children
    go true true true true p q r t h = record { rate_low = leb-true rate 1000000 p; some = leb-true 1 children q; few = leb-true children 60 r; near = t }
    go true true true false p q r t h = absurd (true≢false (sym h))
    go true true false e p q r t h = absurd (true≢false (sym h))
    go true false c e p q r t h = absurd (true≢false (sym h))
    go false b c e p q r t h = absurd (true≢false (sym h))

pub good_from : (d : Float) (rate children : ℕ) → Good d rate children → good d rate children ≡ true
good_from d rate children g = rw (le-leb rate 1000000 g.rate_low, le-leb 1 children g.some, le-leb children 60 g.few, g.near) refl
