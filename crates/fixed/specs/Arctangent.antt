-- Arctangent, arcsine and atan2 (document 01, Fixed functions).
use Rattle.std.specs.Prelude.{◌≡◌, refl, Bool, cond, not, ◌&&◌, ◌||◌, [], ◌∷◌, ℕ, ◌*◌, Float}
use Rattle.std.specs.Float.{nan}
use Rattle.std.specs.Float.Ieee.{neg, is_nan, of_bits, round, mul}
use Rattle.std.specs.Float.Ieee.Scale.{finite}
use Rattle.float.specs.Operators.{◌⊕◌, ◌⊖◌, ◌⊗◌, ◌⊘◌, ◌≺◌, ◌≈◌, f64}
use Rattle.float.specs.Constants.{+0, one, three, four, PI, FRAC_PI_2, FRAC_PI_4, LO}
use Rattle.float.specs.Sign.{negative, abs}
use Rattle.float.specs.Fractions.{Fraction, over, nearest_f64}
use Rattle.float.specs.Pi.{arctan_low, arctan_high, pi_low, pi_high}
use Rattle.root.specs.Root.{root}
use Rattle.sums.specs.NestedSum.{alternating}
use Rattle.sums.specs.InverseOdds.{inverse_odds}

-- the tangent of half the angle whose tangent is t
unfoldable pub half_angle : Float → Float
half_angle t = t ⊘ (one ⊕ root (one ⊕ t ⊗ t))

-- 01's A, four times the angle whose tangent is t: 4×(t×(1 - w×(1/3 - .. w×1/25))), w = t×t
unfoldable pub arc : Float → Float
arc t = four ⊗ (t ⊗ alternating (t ⊗ t) inverse_odds)

-- t = |x| is inverted if above 1, and the sign comes back last
unfoldable pub arctangent : Float → Float
arctangent x =
    let t = abs x in
    let inverted = one ≺ t in
    let a = arc (half_angle (half_angle (cond inverted (one ⊘ t) t))) in
    let b = cond inverted ((FRAC_PI_2 ⊖ a) ⊕ LO) a in
    cond (negative x) (neg b) b

-- beyond 1 in size NaN, at 1 FRAC_PI_2 with x's sign
unfoldable pub arcsine : Float → Float
arcsine x =
    cond (one ≺ abs x) nan
    (cond (abs x ≈ one) (cond (negative x) (neg FRAC_PI_2) FRAC_PI_2)
    (arctangent (x ⊘ root ((one ⊖ x) ⊗ (one ⊕ x)))))

-- the f64 nearest to 3π/4
abbrev pub FRAC_3_PI_4 : Float
FRAC_3_PI_4 = f64 0x4002d97c7f3321d2

-- y or x is zero or infinite
unfoldable pub on_axis : Float → Float → Bool
on_axis y x = (y ≈ +0 || x ≈ +0) || not (finite y && finite x)

-- the size of atan2 there, by IEEE 754-2019, 9.2.1: along x's axis, between the axes, along y's
unfoldable pub axis_angle : Float → Float → Float
axis_angle y x =
    cond (y ≈ +0 || (finite y && not (finite x))) (cond (negative x) PI +0)
    (cond (not (finite x)) (cond (negative x) FRAC_3_PI_4 FRAC_PI_4) FRAC_PI_2)

-- the angle of the point (x, y); y's sign is the angle's
unfoldable pub atan2 : Float → Float → Float
atan2 y x =
    let a = arctangent (y ⊘ x) in
    let b = axis_angle y x in
    cond (is_nan y || is_nan x) nan
    (cond (on_axis y x) (cond (negative y) (neg b) b)
    (cond (x ≺ +0) (cond (negative y) (a ⊖ PI) (a ⊕ PI)) a))

-- k quarters of p
abbrev quarters : ℕ → Fraction → Fraction
quarters k p = over (k * p.num) (4 * p.den)

-- Each multiple of π that atan2 gives is the f64 nearest to it: the bounds below and above π (float's specs/Pi) both round to it. 3π/4 is 3×FRAC_PI_4.
pub nearest_multiples :
    (nearest_f64 (quarters 1 pi_low) ∷ nearest_f64 (quarters 2 pi_low) ∷ nearest_f64 (quarters 3 pi_low) ∷ nearest_f64 (quarters 4 pi_low)
    ∷ nearest_f64 (quarters 1 pi_high) ∷ nearest_f64 (quarters 2 pi_high) ∷ nearest_f64 (quarters 3 pi_high) ∷ nearest_f64 (quarters 4 pi_high)
    ∷ three ⊗ FRAC_PI_4 ∷ [])
    ≡ (FRAC_PI_4 ∷ FRAC_PI_2 ∷ FRAC_3_PI_4 ∷ PI ∷ FRAC_PI_4 ∷ FRAC_PI_2 ∷ FRAC_3_PI_4 ∷ PI ∷ FRAC_3_PI_4 ∷ [])
unfolding arctan_low arctan_high pi_low pi_high of_bits round mul
nearest_multiples = refl
