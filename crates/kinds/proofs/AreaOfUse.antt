-- What an area of use changes, and what it leaves: without one every answer is the kind's own, and with one a place inside has the same bits.
use mathlib.Core.Path.{◌≡◌, refl, sym}
use mathlib.Core.Bool.{true, false≢true}
use mathlib.Core.Logic.{◌⊎◌, inl, inr}
use mathlib.Core.List.{List}
use lib.Ieee.{Float}
use Rattle.std.specs.Prelude.{Some, None, Result, Ok, Err}
use Rattle.std.specs.Result.{result_and, is_err}
use Rattle.refusals.specs.Refusals.{number}
use Rattle.refusals.specs.declared.Refusal.{Refusal}
use Rattle.refusals.proofs.Refused.{refused}
use Rattle.projection.specs.Answer.{Answer, pair}
use Rattle.projection.specs.Checks.{Check, passed, validate_lon_lat}
use Rattle.projection.specs.AreaOfUse.{validate_area, validate_normalised, validate_place, ensure_inside}
use Rattle.projection.specs.InArea.{InUnits, InArea}
use Rattle.projection.specs.OnTheMap.{OnTheMap}
use Rattle.projection.specs.declared.Area.{Area}
use Rattle.projection.specs.declared.Settings.{Settings}
use Rattle.projection.specs.declared.Frame.TheVariants.{Held}
use Rattle.projection.proofs.Entered.{checked_once}
use Rattle.projection.proofs.InArea.{inside_anywhere, inside_passed, inside_answered, answered_in_units}
use Rattle.projection.proofs.SoundArea.{edges_finite}
use Rattle.ellipsoid.specs.Ellipsoid.{from_a_f}
use Rattle.ellipsoid.specs.declared.Ellipsoid.{Ellipsoid}
use Rattle.lambert_azimuthal_equal_area.specs.Forward as laea
use Rattle.albers_equal_area.specs.AlbersEqualArea as aea
use Rattle.equal_earth.specs.EqualEarth as eqearth
use Rattle.cassini_soldner.specs.CassiniSoldner as cass
use Rattle.american_polyconic.specs.AmericanPolyconic as poly
use Rattle.guam_projection.specs.GuamProjection as gm
use Rattle.letters.specs.Uses.{used}
use Rattle.letters.specs.declared.Kind.{Kind}
use Rattle.letters.specs.declared.Kind.TheVariants.{L, S, A, E, C, P, G}
use Rattle.letters.specs.declared.Way.{Way}
use Rattle.letters.specs.declared.Way.TheVariants.{Forward, Inverse}
use Rattle.kinds.specs.Kinds.{and_then, plain, made, new, built_number, forward_of, forward, formula, inverse_of, inverse, inverse_in, answer_in, refused as no_projection, on_ellipsoid, build, project, checked_area, with_area}
use Rattle.kinds.specs.declared.Built.{Built}
use Rattle.kinds.specs.declared.Built.TheVariants.{Lambert, Albers, Equal, Cassini, Polyconic, Guam}
use Rattle.kinds.specs.declared.Projection.{Projection}

-- ---- the kind's own answers, without an area of use

-- a projection that was refused answers by its own refusal
abbrev pub own_forward : Projection → Float → Float → Answer
own_forward p lon lat = and_then p.built (λ b. forward_of b p.en lon lat)

abbrev pub own_inverse : Projection → Float → Float → Answer
own_inverse p x y = and_then p.built (λ b. inverse_of Held b p.en x y)

-- ---- forward

-- every kind checks the place first
pub checked_by_kind : (b : Built) (en : List Float) (lon lat : Float) → result_and (validate_lon_lat lon lat) (forward_of b en lon lat) ≡ forward_of b en lon lat
unfolding forward_of laea.forward aea.forward eqearth.forward cass.forward poly.forward gm.forward
checked_by_kind (Lambert p) en lon lat = checked_once _ lon lat p.lon0
checked_by_kind (Albers p) en lon lat = checked_once _ lon lat p.lon0
checked_by_kind (Equal p) en lon lat = checked_once _ lon lat p.lon0
checked_by_kind (Cassini p) en lon lat = checked_once _ lon lat p.lon0
checked_by_kind (Polyconic p) en lon lat = checked_once _ lon lat p.lon0
checked_by_kind (Guam p) en lon lat = checked_once _ lon lat p.lon0

module _ (p : Projection) (lon lat : Float) where
  -- a place inside has the kind's own answer
  pub forward_inside : validate_place p.area lon lat ≡ passed → forward p lon lat ≡ own_forward p lon lat
  unfolding forward
  forward_inside z = rw z (go p.built)
    where
      go : (b : Result Built Refusal)
          → and_then b (λ k. result_and (validate_lon_lat lon lat) (forward_of k p.en lon lat)) ≡ and_then b (λ k. forward_of k p.en lon lat)
      go (Ok b) = checked_by_kind b p.en lon lat
      go (Err r) = refl

  -- in other words: of a projection that was refused, and of a place inside, it is the kind's own answer
  pub forward_stays : (is_err p.built ≡ true) ⊎ (validate_place p.area lon lat ≡ passed) → own_forward p lon lat ≡ forward p lon lat
  unfolding forward
  forward_stays (inl e) = go p.built e
    where
      go : (b : Result Built Refusal) → is_err b ≡ true
          → and_then b (λ k. forward_of k p.en lon lat)
          ≡ and_then b (λ k. result_and (validate_lon_lat lon lat) (result_and (validate_place p.area lon lat) (forward_of k p.en lon lat)))
      go (Ok b) h = absurd (false≢true h)
      go (Err r) h = refl
  forward_stays (inr z) = sym (forward_inside z)

  -- and of a place outside it is the first refusal: 16 or 17, or else 26
  pub forward_refused : (b : Built) (r : Refusal) → p.built ≡ Ok b → validate_place p.area lon lat ≡ Err r
      → result_and (validate_lon_lat lon lat) (Err r) ≡ forward p lon lat
  unfolding forward
  forward_refused b r e z = rw (e, z) refl

  -- and so has every place without an area
  pub forward_anywhere : p.area ≡ None → forward p lon lat ≡ own_forward p lon lat
  unfolding validate_place validate_normalised
  forward_anywhere e = forward_inside (rw e refl)

-- ---- back

module _ (p : Projection) (x y : Float) where
  pub inverse_anywhere : p.area ≡ None → inverse p x y ≡ own_inverse p x y
  unfolding inverse_in
  inverse_anywhere e = rw e (go p.built)
    where
      go : (b : Result Built Refusal)
          → and_then b (λ k. ensure_inside None (inverse_of Held k p.en x y)) ≡ and_then b (λ k. inverse_of Held k p.en x y)
      go (Ok b) = inside_anywhere (inverse_of Held b p.en x y)
      go (Err r) = refl

  -- a place inside that the kind answers has the same bits, and so what is answered is the kind's own answer
  pub inverse_inside : (lon lat : Float) → own_inverse p x y ≡ pair lon lat → validate_normalised p.area lon lat ≡ passed → inverse p x y ≡ pair lon lat
  unfolding inverse_in
  inverse_inside lon lat e z = go p.built e
    where
      go : (b : Result Built Refusal) → and_then b (λ k. inverse_of Held k p.en x y) ≡ pair lon lat
          → and_then b (λ k. ensure_inside p.area (inverse_of Held k p.en x y)) ≡ pair lon lat
      go (Ok b) f = rw f (inside_passed p.area lon lat z)
      go (Err r) f = f

  pub inverse_answered : (lon lat : Float) → inverse p x y ≡ pair lon lat → (own_inverse p x y ≡ pair lon lat) × (validate_normalised p.area lon lat ≡ passed)
  unfolding inverse_in
  inverse_answered lon lat e = go p.built e
    where
      go : (b : Result Built Refusal) → and_then b (λ k. ensure_inside p.area (inverse_of Held k p.en x y)) ≡ pair lon lat
          → (and_then b (λ k. inverse_of Held k p.en x y) ≡ pair lon lat) × (validate_normalised p.area lon lat ≡ passed)
      go (Ok b) f = inside_answered p.area (inverse_of Held b p.en x y) lon lat f
      go (Err r) f = refused f

-- ---- building

-- what is built without an area has none
made_anywhere : (kind : Kind) (e : Ellipsoid) (s : Settings) → (made kind e s).area ≡ None
unfolding made plain
made_anywhere L e s = refl
made_anywhere S e s = refl
made_anywhere A e s = refl
made_anywhere E e s = refl
made_anywhere C e s = refl
made_anywhere P e s = refl
made_anywhere G e s = refl

pub build_anywhere : (kind : Kind) (a f : Float) (s : Settings) → (build kind a f s).area ≡ None
unfolding build new no_projection plain
build_anywhere kind a f s = go (from_a_f a f)
  where
    go : (b : Result Ellipsoid Refusal) → (on_ellipsoid kind s b).area ≡ None
    go (Ok e) = made_anywhere kind e (used kind s)
    go (Err r) = refl

-- so a point of a sheet, or of any projection built without an area, is answered as document 01 says
abbrev pub by_kind : Way → Projection → Float → Float → Answer
by_kind Forward p u v = own_forward p u v
by_kind Inverse p u v = own_inverse p u v

pub project_anywhere : (way : Way) (kind : Kind) (a f : Float) (s : Settings) (u v : Float)
    → project way kind a f s u v ≡ by_kind way (build kind a f s) u v
unfolding project answer_in
project_anywhere Forward kind a f s u v = forward_anywhere (build kind a f s) u v (build_anywhere kind a f s)
project_anywhere Inverse kind a f s u v = inverse_anywhere (build kind a f s) u v (build_anywhere kind a f s)

-- with an area: the kind's refusal and then 25; and where it is built it is the same projection, with the area
module _ (p : Projection) (area : Area) where
  pub with_area_number : built_number (with_area p area) ≡ number (result_and p.built (validate_area area))
  unfolding with_area no_projection plain
  with_area_number = go p.built (validate_area area) refl
    where
      go : (b : Result Built Refusal) (c : Check) → p.built ≡ b → built_number (checked_area p area (result_and b c)) ≡ number (result_and b c)
      go (Ok b) (Ok x) e = rw e refl
      go (Ok b) (Err r) e = refl
      go (Err r) c e = refl

  pub with_area_built : (b : Built) → p.built ≡ Ok b → validate_area area ≡ passed → with_area p area ≡ record { built = p.built; en = p.en; area = Some area }
  unfolding with_area
  with_area_built b e z = rw (e, z) refl

-- What `kinds::inverse` promises is exact for such a projection: whatever it answers lies inside in whole units, with no word about the edges.
module _ (p : Projection) (area : Area) (x y lon lat : Float) where
  pub with_area_in_units : OnTheMap (formula (with_area p area) x y) (inverse (with_area p area) x y)
      → InArea (with_area p area).area (inverse (with_area p area) x y)
      → inverse (with_area p area) x y ≡ pair lon lat → InUnits area lon lat
  unfolding with_area no_projection plain inverse_in
  with_area_in_units = go p.built (validate_area area) refl refl
    where
      go : (b : Result Built Refusal) (c : Check) → p.built ≡ b → validate_area area ≡ c → (let q = checked_area p area (result_and b c) in
          OnTheMap (formula q x y) (inverse q x y) → InArea q.area (inverse q x y) → inverse q x y ≡ pair lon lat → InUnits area lon lat)
      go (Ok b) (Ok v) e z on held f = answered_in_units area _ _ lon lat (edges_finite area z) on held f
      go (Ok b) (Err r) e z on held f = refused f
      go (Err r) c e z on held f = refused f
