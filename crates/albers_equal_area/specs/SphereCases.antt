-- What document 02 and its readings say of Albers on a sphere, at the edges: a table with a row for each case, and one theorem by computation.
-- a is 1, and settings that a case does not name are 0.
use Rattle.std.specs.Prelude.{ℕ, ◌^◌, ◌≡◌, refl, List, [], ◌∷◌, map, Float, Result, Ok, Err}
use Prim.Native.String.{String}
use Rattle.std.specs.Float.{nan}
use Rattle.std.specs.Float.Ieee.{neg}
use Rattle.float.specs.Operators.{◌⊕◌, f64}
use Rattle.float.specs.Constants.{+0, one, half, FRAC_PI_2, ratio}
use Rattle.refusals.specs.Refusals.{number}
use Rattle.refusals.specs.declared.Refusal.{Refusal}
use Rattle.projection.specs.Answer.{Answer}
use Rattle.albers_equal_area.specs.AlbersEqualArea.{new, forward, inverse}
use Rattle.albers_equal_area.specs.Opened.{opened}
use Rattle.albers_equal_area.specs.declared.AlbersEqualArea.{AlbersEqualArea}

-- a row: what the case is, the number that is worked out, the number that document 02 gives
pub record Row : Type 0 where
  pub label : String
  pub worked_out : ℕ
  pub says : ℕ

abbrev row : String → Answer → ℕ → Row
row label answer says = record { label = label; worked_out = number answer; says = says }

-- what a projection answers, once it is built
unfoldable pub by : (AlbersEqualArea → Answer) → Result AlbersEqualArea Refusal → Answer
by answer (Ok p) = answer p
by answer (Err r) = Err r

-- Albers on the flattening f, with the origin's latitude lat0 and the parallels lat1 and lat2
abbrev on : Float → Float → Float → Float → Result AlbersEqualArea Refusal
on f lat0 lat1 lat2 =
    new (record { a = one; f = f })
    (record { lon0 = +0; lat0 = lat0; lat1 = lat1; lat2 = lat2; false_easting = +0; false_northing = +0 })

-- between the parallels, the place (0, 0)
abbrev between : String → Float → Float → ℕ → Row
between label lat1 lat2 = row label (by (λ p. forward p +0 +0) (on +0 +0 lat1 lat2))

-- on the flattening f with lat0 .6, the parallels .5 and .7
abbrev atlas : Float → Result AlbersEqualArea Refusal
atlas f = on f (ratio 6 10) half (ratio 7 10)

-- there and back
abbrev and_back : AlbersEqualArea → Answer → Answer
and_back p (Ok (x, y)) = inverse p x y
and_back p (Err r) = Err r

abbrev TINY : Float
TINY = ratio 1 (10 ^ 13)

abbrev pub table : List Row
table =
    between "opposite parallels" half (neg half) 15
    ∷ between "opposite but for a little: n is below 1e-12 in size" half (neg half ⊕ TINY) 15
    ∷ between "opposite parallels that count as one" (ratio 4 (10 ^ 11)) (neg (ratio 4 (10 ^ 11))) 0
    ∷ between "opposite parallels that differ by 1e-10 itself" (ratio 5 (10 ^ 11)) (neg (ratio 5 (10 ^ 11))) 15
    ∷ between "one parallel: n is the sine of the first, here 0" +0 (ratio 3 (10 ^ 12)) 15
    ∷ between "the same, turned round" (ratio 3 (10 ^ 12)) +0 0
    ∷ between "a parallel that is NaN" nan half 7
    ∷ row "a place" (by (λ p. forward p (ratio 1 10) (ratio 7 10)) (atlas +0)) 0
    ∷ row "f = -0 is a sphere too" (by (λ p. forward p (ratio 1 10) (ratio 7 10)) (atlas (neg +0))) 0
    ∷ row "there and back" (by (λ p. and_back p (forward p (ratio 1 10) (ratio 7 10))) (atlas +0)) 0
    ∷ row "off the map" (by (λ p. inverse p +0 (ratio 9 1)) (atlas +0)) 23
    ∷ row "off the map of an ellipsoid" (by (λ p. inverse p +0 (ratio 9 1)) (atlas (ratio 1 300))) 22
    ∷ row "the least f above 0 is an ellipsoid's" (by (λ p. inverse p +0 (ratio 9 1)) (atlas (f64 1))) 22
    ∷ row "f = 1e-20, of which e² is below 1e-15, too" (by (λ p. inverse p +0 (ratio 9 1)) (atlas (ratio 1 (10 ^ 20)))) 22
    ∷ row "a pole is a place" (by (λ p. forward p half (neg FRAC_PI_2)) (atlas +0)) 0
    ∷ row "there and back from it, where q/2 is beyond 1" (by (λ p. and_back p (forward p half (neg FRAC_PI_2))) (atlas +0)) 23
    ∷ []

pub cases : map (λ (r : Row). r.worked_out) table ≡ map (λ (r : Row). r.says) table
unfolding opened by
cases = refl
