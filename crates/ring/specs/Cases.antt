-- What document 02 and its readings say of a ring, at the edges: a theorem by computation for each case. f is 0, and settings that a case does not name are 0.
use Rattle.std.specs.Prelude.{ℕ, ◌*◌, ◌^◌, ◌≡◌, refl, [], ◌∷◌, Float, Result}
use Rattle.std.specs.Float.{nan}
use Rattle.std.specs.Float.Ieee.{neg}
use Rattle.float.specs.Operators.{f64}
use Rattle.float.specs.Constants.{+0, one, two, three, half, PI, ratio}
use Rattle.refusals.specs.Refusals.{number}
use Rattle.refusals.specs.declared.Refusal.{Refusal}
use Rattle.letters.specs.declared.Kind.TheVariants.{S, C}
use Rattle.projection.specs.declared.Settings.{Settings}
use Rattle.kinds.specs.Kinds.{build, build_in_area}
use Rattle.kinds.specs.declared.Projection.{Projection}
use Rattle.ring.specs.Ring.{ring_area}
use Rattle.ring.specs.Results.{points}
use Rattle.ring.specs.Opened.{opened}
use Rattle.ring.specs.declared.RingArea.{RingArea}

-- a number, and how many points
pub record Outcome : Type 0 where
  pub number : ℕ
  pub points : ℕ

abbrev outcome : Result RingArea Refusal → Outcome
outcome r = record { number = number r; points = points r }

abbrev answered : ℕ → Outcome
answered n = record { number = 0; points = n }

abbrev refused : ℕ → Outcome
refused k = record { number = k; points = 0 }

-- of a triangle, with buffers of so many places
abbrev within : ℕ → ℕ → Projection → Float → Float → Float → Float → Float → Float → Outcome
within eastings northings p lon₁ lat₁ lon₂ lat₂ lon₃ lat₃ = outcome (ring_area p (lon₁ ∷ lon₂ ∷ lon₃ ∷ []) (lat₁ ∷ lat₂ ∷ lat₃ ∷ []) eastings northings)

abbrev triangle : Projection → Float → Float → Float → Float → Float → Float → Outcome
triangle p = within 9 9 p

abbrev settings : Float → Float → Float → Settings
settings lon0 lat0 offset = record { lon0 = lon0; lat0 = lat0; lat1 = +0; lat2 = +0; false_easting = offset; false_northing = offset }

-- S about the point opposite to (0, 0), of the Earth's size, with an area of use
abbrev opposite : Float → Float → Projection
opposite west east =
    build_in_area S (ratio 6378137 1) +0 (settings (neg PI) +0 +0) (record { west = west; east = east; south = neg one; north = one })

-- S about (0, 0) with a of 1, and both false offsets the same
abbrev world : Float → Projection
world offset = build S one +0 (settings +0 +0 offset)

-- the f64 after 0.25 has the root 0.5: such an edge stays uncut
pub at_the_threshold :
    triangle (build S (f64 0x40227aa67c5657b3) +0 (settings +0 (ratio 1 4) +0))
    (neg (ratio 76 100)) (ratio 16 100) (ratio 79 100) (neg (ratio 59 100)) (neg (ratio 76 100)) (ratio 16 100)
    ≡ answered 3
unfolding opened
at_the_threshold = refl

-- the first half before the second: longitude 0 is opposite, 2 is outside the area
pub first_half_first : triangle (opposite (ratio 5 2) (ratio 3 2)) (neg one) +0 three +0 one half ≡ refused 18
unfolding opened
first_half_first = refl

pub turned_round : triangle (opposite (ratio 5 2) (ratio 3 2)) three +0 (neg one) +0 one half ≡ refused 26
unfolding opened
turned_round = refl

-- corners before edges
pub corners_first : triangle (opposite (ratio 5 2) (ratio 3 2)) (neg one) +0 three +0 two half ≡ refused 26
unfolding opened
corners_first = refl

-- a half whole before the other, not level by level: longitude 0 is at depth 2 of the first half, 2.5 at depth 1 of the second
pub half_by_half : triangle (opposite three two) (neg half) +0 (ratio 7 2) +0 one half ≡ refused 18
unfolding opened
half_by_half = refl

-- each corner in its turn has its own first number: one that is opposite, and then one beyond the bound
pub by_turns : triangle (world +0) PI +0 one +0 one two ≡ refused 18
unfolding opened
by_turns = refl

-- longitudes are taken as they are: from 3.1 to -3.1 runs through 0
pub no_short_way :
    triangle (build_in_area S one +0 (settings +0 +0 +0) (record { west = three; east = neg three; south = neg one; north = one }))
    (ratio 31 10) +0 (neg (ratio 31 10)) +0 (ratio 31 10) half
    ≡ refused 26
unfolding opened
no_short_way = refl

-- where half the sum overflows the midpoint is not finite
pub overflowing : triangle (world +0) (ratio (16 * 10 ^ 307) 1) +0 (ratio (17 * 10 ^ 307) 1) +0 one half ≡ refused 16
unfolding opened
overflowing = refl

-- an area that is not finite
pub not_finite : triangle (world (ratio (10 ^ 200) 1)) +0 +0 (ratio 1 10) +0 +0 (ratio 1 10) ≡ refused 28
unfolding opened
not_finite = refl

-- each buffer is compared with the points, and may be longer than the other
pub just_enough : within 3 7 (world +0) +0 +0 (ratio 1 10) +0 +0 (ratio 1 10) ≡ answered 3
unfolding opened
just_enough = refl

pub too_short : within 7 2 (world +0) +0 +0 (ratio 1 10) +0 +0 (ratio 1 10) ≡ refused 28
unfolding opened
too_short = refl

-- another kind, before any point and any buffer
pub another_kind : within 0 0 (build C one +0 (settings +0 +0 +0)) nan nan nan nan nan nan ≡ refused 27
unfolding opened
another_kind = refl

-- a refused projection has its own number before that
pub refused_before : within 0 0 (build C +0 +0 (settings +0 +0 +0)) nan nan nan nan nan nan ≡ refused 4
unfolding opened
refused_before = refl
