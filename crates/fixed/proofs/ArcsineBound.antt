-- No arctangent and no arcsine is beyond FRAC_PI_2 in size: 01's A is at most 1, and FRAC_PI_2 with the low word added is FRAC_PI_2 again.
use mathlib.Core.Path.{◌≡◌, refl, sym, ◌∙◌}
use mathlib.Core.Bool.{Bool, true, false, cond}
use Prim.Native.Nat.{ℕ, ◌+◌, ◌*◌, ◌^◌, ◌≤◌}
use native.Mathlib.Nat.{le_refl, le_of_lt, lt_of_le_of_lt}
use native.Mathlib.Omega.{arith}
use borrow.Author.Tests.{ltb-true, ltb-false}
use lib.Dec.{T, lit≤, lit<}
use lib.Ieee.{Float, nan, inf, fin, binary64, fits, neg}
use lib.Ieee.Fits.{div-fits}
use Rattle.float.specs.Operators.{◌⊕◌, ◌⊖◌, ◌⊗◌, ◌⊘◌, ◌≺◌, ◌≈◌}
use Rattle.float.specs.Constants.{one, four, FRAC_PI_2, LO}
use Rattle.float.specs.Sign.{negative, abs}
use Rattle.float.specs.Units.{unit_count}
use Rattle.float.proofs.Rounded.{rounded, rounded_whole}
use Rattle.float.proofs.Monotone.{whole_mono}
use Rattle.float.proofs.Finite.{Finite, finite_of}
use Rattle.float.proofs.AbsoluteValue.{abs_finite}
use Rattle.float.proofs.Negation.{neg_finite}
use Rattle.float.proofs.Sum.{add_alike}
use Rattle.float.proofs.Comparison.{lt_units}
use Rattle.float.proofs.UpTo.{UpTo, up_to_more, mul_up_to, div_up_to, mul_by, sub_up_to}
use Rattle.root.specs.Root.{root}
use Rattle.sums.proofs.FallingSum.{falling_sum, odds_fall}
use Rattle.fixed.specs.Arctangent.{half_angle, arc, arctangent, arcsine}
use Rattle.fixed.specs.Opened.{opened}
use Rattle.fixed.proofs.HalfAngle.{one_is, power, half_up_to}

-- FRAC_PI_2 and LO in units
abbrev pub RIGHT : ℕ
RIGHT = 884279719003555 * 2 ^ 1025

right_is : Finite binary64 FRAC_PI_2 false RIGHT
unfolding opened fits
right_is = finite_of binary64 FRAC_PI_2 tt tt

low_is : Finite binary64 LO false (unit_count binary64 LO)
unfolding opened fits
low_is = finite_of binary64 LO tt tt

four_is : Finite binary64 four false (2 ^ 1076)
unfolding opened fits
four_is = finite_of binary64 four tt tt

-- the low word is less than half the last digit
low_word_lost : rounded_whole 53 (RIGHT + unit_count binary64 LO) ≡ RIGHT
unfolding opened rounded
low_word_lost = refl

-- ---- A, for a t of at most 1
quarter : {t : Float} → UpTo binary64 (2 ^ 1074) t → UpTo binary64 (2 ^ 1072) (half_angle (half_angle t))
quarter p = half_up_to (2 ^ 1072) (power 1072) (lit≤ tt) (lit< tt) (half_up_to (2 ^ 1073) (power 1073) (lit≤ tt) (lit< tt) p)

arc_up_to : {t : Float} → UpTo binary64 (2 ^ 1072) t → UpTo binary64 (2 ^ 1074) (arc t)
unfolding arc
arc_up_to {t} p =
    let w = up_to_more (lit≤ tt) (mul_up_to p (up_to_more (lit≤ tt) p)) in
    mul_by (power 1074) (lit< tt) four_is (mul_up_to p (falling_sum w (lit≤ tt) odds_fall)) (lit≤ tt)

-- ---- where t was inverted
both_more : {a b : ℕ} (c : ℕ) → a ≤ b → a + c ≤ b + c
both_more c h = omega arith

inverted_up_to : {a : Float} → UpTo binary64 (2 ^ 1074) a → UpTo binary64 RIGHT ((FRAC_PI_2 ⊖ a) ⊕ LO)
inverted_up_to p =
    let q = sub_up_to right_is p (lit≤ tt) in
    let l = rw low_word_lost at (whole_mono {p = 53} (lit< tt) (both_more (unit_count binary64 LO) q.most)) in
    record { count = _; is = add_alike q.is low_is (lt_of_le_of_lt l (lit< tt)); most = l }

-- a float of at most RIGHT units, of either sign
pub record WithinRight (x : Float) : Type 0 where
  pub sign : Bool
  pub count : ℕ
  pub is : Finite binary64 x sign count
  pub most : count ≤ RIGHT

signed : (b : Bool) {x : Float} → UpTo binary64 RIGHT x → WithinRight (cond b (neg x) x)
signed true p = record { sign = true; count = p.count; is = neg_finite p.is; most = p.most }
signed false p = record { sign = false; count = p.count; is = p.is; most = p.most }

-- ---- the arctangent of a finite number, of an infinity, and of a NaN
module _ (x : Float) {a : ℕ} (p : Finite binary64 (abs x) false a) where
  -- t, inverted if above 1, is at most 1
  by_size : (b : Bool) → (one ≺ abs x) ≡ b → UpTo binary64 (2 ^ 1074) (cond b (one ⊘ abs x) (abs x))
  by_size true h =
      let l = ltb-true (2 ^ 1074) a (sym (lt_units one_is.units p.units) ∙ h) in
      div_up_to (power 1074) (lit< tt) (record { count = _; is = one_is; most = le_refl _ }) p (le_of_lt l) (lt_of_le_of_lt (lit≤ tt) l) (le_refl _)
  by_size false h = record { count = a; is = p; most = ltb-false (2 ^ 1074) a (sym (lt_units one_is.units p.units) ∙ h) }

  angle : (b : Bool) {t : Float} → UpTo binary64 (2 ^ 1074) t
      → UpTo binary64 RIGHT (let c = arc (half_angle (half_angle t)) in cond b ((FRAC_PI_2 ⊖ c) ⊕ LO) c)
  angle true q = inverted_up_to (arc_up_to (quarter q))
  angle false q = up_to_more (lit≤ tt) (arc_up_to (quarter q))

  finite_arctangent : WithinRight (arctangent x)
  unfolding arctangent
  finite_arctangent = signed (negative x) (angle (one ≺ abs x) (by_size (one ≺ abs x) refl))

-- a NaN, or at most FRAC_PI_2 in size
pub data RightAngle (x : Float) : Type 0 where
  no_number : x ≡ nan → RightAngle x
  within : WithinRight x → RightAngle x

right : UpTo binary64 RIGHT FRAC_PI_2
right = record { count = _; is = right_is; most = le_refl _ }

of_nan : arctangent nan ≡ nan
unfolding opened
of_nan = refl

of_infinity : (s : Bool) → arctangent (inf s) ≡ cond s (neg FRAC_PI_2) FRAC_PI_2
unfolding opened
of_infinity true = refl
of_infinity false = refl

pub arctangent_bound : (x : Float) → T (fits binary64 x) → RightAngle (arctangent x)
arctangent_bound nan held = no_number of_nan
arctangent_bound (inf s) held = within (rw (of_infinity s) (signed s right))
arctangent_bound (fin s m e) held = within (finite_arctangent (fin s m e) (abs_finite (finite_of binary64 (fin s m e) held tt)))

pub arcsine_bound : (x : Float) → RightAngle (arcsine x)
unfolding arcsine
arcsine_bound x =
    let divisor = root ((one ⊖ x) ⊗ (one ⊕ x)) in
    go (one ≺ abs x) (abs x ≈ one) (x ⊘ divisor) (div-fits binary64 x divisor)
  where
    go : (b c : Bool) (y : Float) → T (fits binary64 y) → RightAngle (cond b nan (cond c (cond (negative x) (neg FRAC_PI_2) FRAC_PI_2) (arctangent y)))
    go true c y held = no_number refl
    go false true y held = within (signed (negative x) right)
    go false false y held = arctangent_bound y held
