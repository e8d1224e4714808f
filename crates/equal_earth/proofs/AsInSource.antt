-- The source's words are ours: root (2 / 2) is 1, and an e² of 0 is below the size that counts as a sphere's.
use Prim.Native.Nat.{ℕ, ◌*◌, ◌<◌}
use mathlib.Core.Path.{◌≡◌, refl, sym, ap, ◌∙◌, subst}
use mathlib.Core.Bool.{Bool, true, false, cond, ◌&&◌, false≢true}
use native.Mathlib.Nat.{zero-mul, mul-one, mul-pos}
use borrow.Author.Tests.{lt-ltb, eqb-true}
use lib.IntN.{ℤ, pos}
use lib.Dec.{lit<}
use lib.Ieee.{Float, nan, inf, fin, neg, up, down, lt, eq, of_bits, round, mul}
use lib.Ieee.Fits.{down_pos}
use Rattle.float.specs.Operators.{◌⊕◌, ◌⊗◌, ◌⊘◌, ◌≈◌}
use Rattle.float.specs.Constants.{+0, half, one, two, FRAC_PI_2}
use Rattle.float.specs.Sign.{abs, negative}
use Rattle.float.specs.Limits.{clamp}
use Rattle.root.specs.Root.{root}
use Rattle.trigonometry.specs.Trigonometry.{sine}
use Rattle.fixed.specs.Arctangent.{arcsine}
use Rattle.ellipsoid.specs.Ellipsoid as ellipsoids
use Rattle.ellipsoid.specs.declared.Ellipsoid.{Ellipsoid}
use Rattle.authalic.specs.Authalic.{spherical, authalic_q, geodetic_from_authalic}
use Rattle.projection.specs.MapEdge.{beyond_edge}
use Rattle.std.specs.Prelude.{Ok}
use Rattle.projection.specs.Answer.{pair}
use Rattle.projection.specs.declared.Settings.{Settings}
use Rattle.projection.specs.declared.Frame.TheVariants.{Held}
use Rattle.projection.proofs.AsInSource.{no_origin_as_in_source}
use Rattle.equal_earth.specs.EqualEarth.{M, MAX_Y, polar_q, derived, new, psi_of_northing, longitude_from_origin, latitude, place, scaled_place}
use Rattle.equal_earth.specs.AsInSource.{source_derived, source_new, source_latitude}
use Rattle.equal_earth.specs.declared.EqualEarth.{EqualEarth}

-- ---- the constructor
sphere_rqda : one ≡ root (half ⊗ two)
unfolding of_bits round mul root
sphere_rqda = refl

rqda_is : (b : Bool) (q_p : Float) → cond b one (root (half ⊗ q_p)) ≡ root (half ⊗ cond b two q_p)
rqda_is true q_p = sphere_rqda
rqda_is false q_p = refl

pub derived_as_in_source : (ellipsoid : Ellipsoid) (s : Settings)
    → source_derived ellipsoid s.lon0 s.false_easting s.false_northing ≡ derived ellipsoid s
unfolding derived polar_q
derived_as_in_source ellipsoid s =
    let e2 = ellipsoids.e2 ellipsoid in
    let q_p = authalic_q FRAC_PI_2 e2 in
    ap (λ (r : Float). record { a = ellipsoid.a; e2 = e2; lon0 = s.lon0; false_easting = s.false_easting; false_northing = s.false_northing; q_p = cond (e2 ≈ +0) two q_p; rqda = r })
    (rqda_is (e2 ≈ +0) q_p)

pub new_as_in_source : (ellipsoid : Ellipsoid) (s : Settings)
    → source_new ellipsoid s.lon0 s.false_easting s.false_northing ≡ new ellipsoid s
unfolding new
new_as_in_source ellipsoid s =
    rw (derived_as_in_source ellipsoid s)
    (no_origin_as_in_source s.lon0 s.false_easting s.false_northing (Ok (derived ellipsoid s)))

-- ---- the inverse's latitude
first_true : (a b : Bool) → (a && b) ≡ true → a ≡ true
first_true true b h = refl
first_true false b h = h

-- a number that equals 0 has no digits
no_digits : (s : Bool) (m : ℕ) (e : ℤ) → eq (fin s m e) (fin false 0 (pos 0)) ≡ true → m * up e ≡ 0
unfolding eq
no_digits s m e h = sym (mul-one (m * up e)) ∙ eqb-true _ _ (first_true _ _ h) ∙ zero-mul (down e)

-- and is below every number above 0
below_positive : (m : ℕ) (e : ℤ) (n : ℕ) (d : ℤ) → m * up e ≡ 0 → 0 < n * up d → lt (fin false m e) (fin false n d) ≡ true
unfolding lt
below_positive m e n d z h =
    let none : m * up e * down d ≡ 0 = ap (λ (k : ℕ). k * down d) z ∙ zero-mul (down d) in
    lt-ltb (m * up e * down d) (n * up d * down e) (subst (λ (k : ℕ). k < n * up d * down e) (sym none) (mul-pos h (down_pos e)))

zero_spherical : (e2 : Float) → (e2 ≈ +0) ≡ true → spherical e2 ≡ true
unfolding spherical abs negative neg eq of_bits
zero_spherical nan h = absurd (false≢true h)
zero_spherical (inf s) h = absurd (false≢true h)
zero_spherical (fin true m e) h = below_positive m e _ _ (no_digits true m e h) (lit< tt)
zero_spherical (fin false m e) h = below_positive m e _ _ (no_digits false m e h) (lit< tt)

sphere_leaves : (beta e2 : Float) → cond (e2 ≈ +0) beta (geodetic_from_authalic beta e2) ≡ geodetic_from_authalic beta e2
unfolding geodetic_from_authalic
sphere_leaves beta e2 = go (e2 ≈ +0) refl
  where
    go : (b : Bool) → b ≡ (e2 ≈ +0) → cond b beta (geodetic_from_authalic beta e2) ≡ geodetic_from_authalic beta e2
    go true h = rw (zero_spherical e2 (sym h))
    go false h = refl

pub latitude_as_in_source : (p : EqualEarth) (psi : Float) → source_latitude p psi ≡ latitude p psi
unfolding latitude
latitude_as_in_source p psi = sphere_leaves (arcsine (clamp (sine psi ⊘ M) (neg one) one)) p.e2

-- ---- the first inverse asks nothing about the map's edge
module _ (p : EqualEarth) (xs : Float) where
  pub held_as_in_source : (ys : Float) → place Held p xs (psi_of_northing (clamp ys (neg MAX_Y) MAX_Y)) ≡ scaled_place Held p xs ys
  unfolding scaled_place beyond_edge
  held_as_in_source ys = refl

  pub found_as_in_source : (psi : Float) → pair (p.lon0 ⊕ longitude_from_origin xs psi) (latitude p psi) ≡ place Held p xs (Ok psi)
  unfolding place beyond_edge
  found_as_in_source psi = refl
