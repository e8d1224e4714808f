-- The choice over the seven kinds, with the meridian numbers and the area of use beside it.
use Rattle.std.specs.Prelude.{ℕ, Bool, true, false, cond, List, replicate, Float, Option, Some, None, Result, Ok, Err}
use Rattle.std.specs.Result.{result_and}
use Rattle.float.specs.Constants.{+0}
use Rattle.refusals.specs.Refusals.{number}
use Rattle.refusals.specs.declared.Refusal.{Refusal}
use Rattle.ellipsoid.specs.Ellipsoid.{from_a_f}
use Rattle.ellipsoid.specs.declared.Ellipsoid.{Ellipsoid}
use Rattle.projection.specs.Answer.{Answer}
use Rattle.projection.specs.AreaOfUse.{validate_area, validate_place, ensure_inside}
use Rattle.projection.specs.Checks.{Check, validate_lon_lat}
use Rattle.projection.specs.Ends.{finish}
use Rattle.projection.specs.declared.Area.{Area}
use Rattle.projection.specs.declared.Settings.{Settings}
use Rattle.projection.specs.declared.Frame.{Frame}
use Rattle.projection.specs.declared.Frame.TheVariants as frame
use Rattle.lambert_azimuthal_equal_area.specs.LambertAzimuthalEqualArea as laea
use Rattle.lambert_azimuthal_equal_area.specs.Forward as laea_forward
use Rattle.lambert_azimuthal_equal_area.specs.Inverse as laea_inverse
use Rattle.albers_equal_area.specs.AlbersEqualArea as aea
use Rattle.equal_earth.specs.EqualEarth as eqearth
use Rattle.cassini_soldner.specs.CassiniSoldner as cass
use Rattle.american_polyconic.specs.AmericanPolyconic as poly
use Rattle.guam_projection.specs.GuamProjection as gm
use Rattle.letters.specs.Uses.{used}
use Rattle.letters.specs.declared.Kind.{Kind}
use Rattle.letters.specs.declared.Kind.TheVariants.{L, S, A, E, C, P, G}
use Rattle.letters.specs.declared.Way.{Way}
use Rattle.letters.specs.declared.Way.TheVariants.{Forward, Inverse}
use Rattle.kinds.specs.declared.Built.{Built}
use Rattle.kinds.specs.declared.Built.TheVariants.{Lambert, Albers, Equal, Cassini, Polyconic, Guam}
use Rattle.kinds.specs.declared.Projection.{Projection}

-- what is made of an answer, if there is one; a refusal stays
abbrev pub result_map : {A B : Type 0} → (A → B) → Result A Refusal → Result B Refusal
result_map f (Ok x) = Ok (f x)
result_map f (Err r) = Err r

-- the source's `?`: what follows an answer; a refusal stays
abbrev pub and_then : {A B : Type 0} → Result A Refusal → (A → Result B Refusal) → Result B Refusal
and_then (Ok x) f = f x
and_then (Err r) f = Err r

-- a kind that has no meridian numbers; without an area of use, as every projection that is made here
unfoldable pub plain : Result Built Refusal → Projection
plain built = record { built = built; en = replicate 13 +0; area = None }

-- ---- a projection of a kind

-- by settings of which each that the kind does not use is +0
unfoldable pub made : Kind → Ellipsoid → Settings → Projection
unfolding plain
made L e s = plain (result_map Lambert (laea.new e s))
made S e s = plain (result_map Lambert (laea.new_spherical e s))
made A e s = plain (result_map Albers (aea.new e s))
made E e s = plain (result_map Equal (eqearth.new e s))
made C e s = plain (result_map Cassini (cass.new e s))
made P e s = let q = poly.new e s in record { built = result_map Polyconic q.built; en = q.en; area = None }
made G e s = let q = gm.new e s in record { built = result_map Guam q.built; en = q.en; area = None }

unfoldable pub new : Kind → Ellipsoid → Settings → Projection
unfolding made
new k e s = made k e (used k s)

-- 0 where it is built, or the number of its refusal
abbrev pub built_number : Projection → ℕ
built_number p = number p.built

-- ---- points

-- forward by the kind alone
unfoldable pub forward_of : Built → List Float → Float → Float → Answer
forward_of (Lambert p) en lon lat = laea_forward.forward p lon lat
forward_of (Albers p) en lon lat = aea.forward p lon lat
forward_of (Equal p) en lon lat = eqearth.forward p lon lat
forward_of (Cassini p) en lon lat = cass.forward p lon lat
forward_of (Polyconic p) en lon lat = poly.forward p en lon lat
forward_of (Guam p) en lon lat = gm.forward p en lon lat

-- 16 and 17, then 26; a projection that was refused has its own number before them. The formula gets the longitude as it was given.
unfoldable pub forward : Projection → Float → Float → Answer
unfolding forward_of
forward p lon lat = and_then p.built (λ b. result_and (validate_lon_lat lon lat) (result_and (validate_place p.area lon lat) (forward_of b p.en lon lat)))

-- The place before its longitude is normalised, with 01's "formula's longitude". Lambert and Equal Earth answer a click in the map's frame, or refuse it;
-- the others know no frame.
unfoldable pub formula_of : Frame → Built → List Float → Float → Float → Answer
formula_of frame (Lambert p) en x y = laea_inverse.formula frame p x y
formula_of frame (Albers p) en x y = aea.formula p x y
formula_of frame (Equal p) en x y = eqearth.formula frame p x y
formula_of frame (Cassini p) en x y = cass.formula p x y
formula_of frame (Polyconic p) en x y = poly.formula p en x y
formula_of frame (Guam p) en x y = gm.formula p en x y

unfoldable pub formula_in : Frame → Projection → Float → Float → Answer
unfolding formula_of
formula_in frame p x y = and_then p.built (λ b. formula_of frame b p.en x y)

-- back by the kind alone
unfoldable pub inverse_of : Frame → Built → List Float → Float → Float → Answer
unfolding formula_of
inverse_of frame b en x y = finish (formula_of frame b en x y)

-- 26 stands last, and is about the place that would be handed out
unfoldable pub inverse_in : Frame → Projection → Float → Float → Answer
unfolding inverse_of
inverse_in frame p x y = and_then p.built (λ b. ensure_inside p.area (inverse_of frame b p.en x y))

-- the first inverse, which is 01's: a click in the frame is answered
abbrev pub formula : Projection → Float → Float → Answer
formula = formula_in frame.Held

abbrev pub inverse : Projection → Float → Float → Answer
inverse = inverse_in frame.Held

-- ---- the second inverse, which refuses a click in the frame by 30: document 02, Q-6

-- L, S and E have one
unfoldable pub second_of : Built → Bool
second_of (Lambert p) = true
second_of (Albers p) = false
second_of (Equal p) = true
second_of (Cassini p) = false
second_of (Polyconic p) = false
second_of (Guam p) = false

-- A projection that was refused does not say its kind, and answers by its own number here too.
unfoldable pub has_second_inverse : Result Built Refusal → Bool
unfolding second_of
has_second_inverse (Ok b) = second_of b
has_second_inverse (Err r) = true

-- that another kind has none is no refusal, and has no number
unfoldable pub inverse_on_map : Projection → Float → Float → Option Answer
unfolding has_second_inverse inverse_in
inverse_on_map p x y = cond (has_second_inverse p.built) (Some (inverse_in frame.Refused p x y)) None

-- ---- one point, as a line of a sheet or of a column asks for it

unfoldable pub answer_in : Frame → Way → Projection → Float → Float → Answer
unfolding forward inverse_in
answer_in frame Forward p u v = forward p u v
answer_in frame Inverse p u v = inverse_in frame p u v

-- by the first inverse, as on every sheet
abbrev pub answer : Way → Projection → Float → Float → Answer
answer = answer_in frame.Held

-- no projection, and why
unfoldable pub refused : Refusal → Projection
unfolding plain
refused r = plain (Err r)

-- a projection on the ellipsoid of a and f: the ellipsoid's checks, then the projection's
abbrev pub on_ellipsoid : Kind → Settings → Result Ellipsoid Refusal → Projection
on_ellipsoid kind s (Ok e) = new kind e s
on_ellipsoid kind s (Err r) = refused r

unfoldable pub build : Kind → Float → Float → Settings → Projection
unfolding new refused
build kind a f s = on_ellipsoid kind s (from_a_f a f)

-- the projection's checks, then the point's
unfoldable pub project : Way → Kind → Float → Float → Settings → Float → Float → Answer
unfolding answer_in build
project way kind a f s u v = answer way (build kind a f s) u v

-- ---- with an area of use

-- where the checks have passed, a projection with an area in place of the one that it has, if any; else none
abbrev pub checked_area : Projection → Area → Check → Projection
checked_area p area (Ok x) = record { built = p.built; en = p.en; area = Some area }
checked_area p area (Err r) = refused r

-- 25 after all checks of the construction
unfoldable pub with_area : Projection → Area → Projection
unfolding refused
with_area p area = checked_area p area (result_and p.built (validate_area area))

unfoldable pub build_in_area : Kind → Float → Float → Settings → Area → Projection
unfolding build with_area
build_in_area kind a f s area = with_area (build kind a f s) area
