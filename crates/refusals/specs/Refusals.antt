-- The refusals' numbers.
use native.Mathlib.Omega.{arith}
use mathlib.Core.Path.{sym, ap, ◌∙◌}
use mathlib.Core.Bool.{false≢true, Bool-set}
use Rattle.std.specs.Prelude.{ℕ, ◌<◌, Bool, true, false, cond, ◌==◌, ◌≡◌, refl, List, [], ◌∷◌, get_or, Option, Some, None, Result, Ok, Err}
use Rattle.refusals.specs.Unlisted.{is_unlisted, unlisted-byte}
use Rattle.refusals.specs.declared.Refusal.{Refusal}
use Rattle.refusals.specs.declared.Refusal.TheVariants as refusal

-- the number of a refusal, as docs/refusals.txt has it
abbrev pub number_of : Refusal → ℕ
-- the sheet has more than 65,536 bytes
number_of refusal.SheetSize = 1
-- a line does not have the sheet's form, or a letter names no way or no kind
number_of refusal.LineForm = 2
-- the inverse flattening (1/f) is not a finite number above 1
number_of refusal.InverseFlattening = 3
-- the semi-major axis (a) is not a finite number above 0
number_of refusal.SemiMajorAxis = 4
-- the flattening (f) is not a number from 0 up to, but not including, 1
number_of refusal.Flattening = 5
-- the origin's longitude (lon0) is not a finite number
number_of refusal.Lon0 = 6
-- the latitude of the origin (lat0) or of a parallel (lat1, lat2) is not a finite number
number_of refusal.LatitudeSetting = 7
-- the latitude of the origin (lat0) or of a parallel (lat1, lat2) is beyond 90 degrees (pi/2 + 1e-12)
number_of refusal.LatitudeSettingBeyond = 8
-- the false easting (fe) is not a finite number
number_of refusal.FalseEasting = 9
-- the false northing (fn) is not a finite number
number_of refusal.FalseNorthing = 10
-- Guam: the ellipsoid is a sphere (e2 is 0)
number_of refusal.Sphere = 11
-- Lambert: q at the pole is not a finite number above 0
number_of refusal.PolarQ = 12
-- Lambert: the origin is near a pole but not at it (its authalic cosine is below 1e-12 in size)
number_of refusal.OriginNearPole = 13
-- Lambert: the origin's scale (d) is not a finite number above 0
number_of refusal.OriginScale = 14
-- Albers: the parallels make no cone (its constant n is below 1e-12 in size)
number_of refusal.ConeConstant = 15
-- the longitude or latitude given is not a finite number
number_of refusal.ForwardInput = 16
-- the latitude given is beyond 90 degrees (pi/2 + 1e-12)
number_of refusal.ForwardBeyond = 17
-- Lambert: the point is opposite the origin (the denominator is 0 or below)
number_of refusal.Antipode = 18
-- the easting or northing worked out is not a finite number
number_of refusal.ForwardResult = 19
-- the easting or northing given is not a finite number
number_of refusal.InverseInput = 20
-- polyconic: a step of the inverse meets a pole (the cosine is below 1e-12 in size)
number_of refusal.StepAtPole = 21
-- the steps of the inverse are used up before it settles (15 steps; polyconic 20)
number_of refusal.StepsUsedUp = 22
-- the longitude or latitude worked out is not a finite number
number_of refusal.InverseResult = 23
-- the latitude worked out is beyond 90 degrees (pi/2 + 1e-12)
number_of refusal.InverseBeyond = 24
-- the area of use has an edge that is not a finite number, a west or east beyond 180 degrees (pi), a south or north beyond 90 degrees (pi/2 + 1e-12), or a south above its north
number_of refusal.AreaEdges = 25
-- the place lies outside the area of use
number_of refusal.OutsideArea = 26
-- the ring's lists have unequal lengths, it has fewer than 3 or more than 4,096 corners, or its projection is of another kind than L, S, A and E
number_of refusal.RingForm = 27
-- a buffer is shorter than the ring's points, or the area worked out is not a finite number
number_of refusal.RingResult = 28
-- there are no schools or more than 256, the coordinate lists have unequal lengths, the rolls or the places for the order are fewer than the schools, or a coordinate is not a finite number or above 1e8 in size
number_of refusal.NearestInput = 29
-- the easting and northing lie off the map, beyond its edge
number_of refusal.OffTheMap = 30
-- the rate is above 1,000,000, there are no children or more than 60, or the distance is not a finite number or above 1,000,000 m
number_of refusal.ChargeInput = 31
-- the columns have unequal lengths: nothing is read or written
number_of refusal.UnequalLengths = 255
-- a number that was handed in
number_of (refusal.Unlisted handed_in) = handed_in.number

-- the refusals of 0 to 31, by their numbers: 0 has none
abbrev first_refusals : List (Option Refusal)
first_refusals =
    None
    ∷ Some refusal.SheetSize
    ∷ Some refusal.LineForm
    ∷ Some refusal.InverseFlattening
    ∷ Some refusal.SemiMajorAxis
    ∷ Some refusal.Flattening
    ∷ Some refusal.Lon0
    ∷ Some refusal.LatitudeSetting
    ∷ Some refusal.LatitudeSettingBeyond
    ∷ Some refusal.FalseEasting
    ∷ Some refusal.FalseNorthing
    ∷ Some refusal.Sphere
    ∷ Some refusal.PolarQ
    ∷ Some refusal.OriginNearPole
    ∷ Some refusal.OriginScale
    ∷ Some refusal.ConeConstant
    ∷ Some refusal.ForwardInput
    ∷ Some refusal.ForwardBeyond
    ∷ Some refusal.Antipode
    ∷ Some refusal.ForwardResult
    ∷ Some refusal.InverseInput
    ∷ Some refusal.StepAtPole
    ∷ Some refusal.StepsUsedUp
    ∷ Some refusal.InverseResult
    ∷ Some refusal.InverseBeyond
    ∷ Some refusal.AreaEdges
    ∷ Some refusal.OutsideArea
    ∷ Some refusal.RingForm
    ∷ Some refusal.RingResult
    ∷ Some refusal.NearestInput
    ∷ Some refusal.OffTheMap
    ∷ Some refusal.ChargeInput
    ∷ []

abbrev listed : ℕ → Option Refusal
listed n = cond (n == 255) (Some refusal.UnequalLengths) (get_or first_refusals n None)

abbrev by_test : (n : ℕ) (b : Bool) → b ≡ is_unlisted n → Option Refusal
by_test n true h = Some (refusal.Unlisted (record { number = n; unlisted = sym h }))
by_test n false h = listed n

-- the refusal of a byte: there is none of 0
abbrev pub from_number : ℕ → Option Refusal
from_number n = by_test n (is_unlisted n) refl

pub from_number-unlisted : (n : ℕ) (h : is_unlisted n ≡ true) → Some (refusal.Unlisted (record { number = n; unlisted = h })) ≡ from_number n
from_number-unlisted n h = go (is_unlisted n) refl
  where
    go : (b : Bool) (e : b ≡ is_unlisted n) → Some (refusal.Unlisted (record { number = n; unlisted = h })) ≡ by_test n b e
    go true e = ap (λ (p : is_unlisted n ≡ true). Some (refusal.Unlisted (record { number = n; unlisted = p }))) (Bool-set _ _ h (sym e))
    go false e = absurd (false≢true (e ∙ h))

-- a number says which refusal it is
pub from_number-number_of : (r : Refusal) → from_number (number_of r) ≡ Some r
from_number-number_of (refusal.Unlisted handed_in) = sym (from_number-unlisted handed_in.number handed_in.unlisted)
from_number-number_of r = refl

-- refusals with different numbers are different
pub other_number : (r s : Refusal) → (number_of r ≡ number_of s → ⊥) → r ≡ s → ⊥
other_number r s h e = h (ap number_of e)

-- a number is a byte
pub number_of-byte : (r : Refusal) → number_of r < 256
number_of-byte (refusal.Unlisted handed_in) = unlisted-byte handed_in.number handed_in.unlisted
number_of-byte r = omega arith

-- no number is 0, which stands for an answer
pub number_of-positive : (r : Refusal) → number_of r ≡ 0 → ⊥
number_of-positive (refusal.Unlisted handed_in) e = false≢true (rw e at handed_in.unlisted)
number_of-positive r e = omega (arith, e)

-- the number of an answer, whatever it is: 0 where there is one
abbrev pub number : {T : Type 0} → Result T Refusal → ℕ
number (Ok x) = 0
number (Err r) = number_of r
