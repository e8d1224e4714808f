-- From a place to the map: x east and y north of the origin, plus the false offsets.
use Rattle.std.specs.Prelude.{cond, Float, Err}
use Rattle.float.specs.Operators.{◌⊕◌, ◌⊖◌, ◌⊗◌, ◌⊘◌, ◌≼◌}
use Rattle.float.specs.Constants.{+0, one, two}
use Rattle.float.specs.Limits.{max_zero}
use Rattle.root.specs.Root.{root}
use Rattle.trigonometry.specs.Trigonometry.{sine, cosine}
use Rattle.refusals.specs.declared.Refusal.TheVariants.{Antipode}
use Rattle.authalic.specs.Authalic.{authalic_q, authalic_latitude}
use Rattle.projection.specs.Starts.{enter, entered}
use Rattle.projection.specs.Ends.{ensure_finite_xy}
use Rattle.projection.specs.Answer.{Answer}
use Rattle.lambert_azimuthal_equal_area.specs.declared.Aspect.{Aspect}
use Rattle.lambert_azimuthal_equal_area.specs.declared.Aspect.TheVariants.{Oblique, NorthPolar, SouthPolar}
use Rattle.lambert_azimuthal_equal_area.specs.declared.LambertAzimuthalEqualArea.{LambertAzimuthalEqualArea}

-- S: Snyder 22-4 and 22-5 with k' of 24-2, and b = R k'. The antipode is no point of the map: 18. A NaN denominator passes.
unfoldable pub spherical_forward : LambertAzimuthalEqualArea → Float → Float → Answer
spherical_forward p d_lon lat =
    let denom = one ⊕ p.sin_lat0 ⊗ sine lat ⊕ p.cos_lat0 ⊗ cosine lat ⊗ cosine d_lon in
    let b = p.spherical_radius ⊗ root (two ⊘ denom) in
    cond (denom ≼ +0) (Err Antipode)
    (ensure_finite_xy
    (p.false_easting ⊕ b ⊗ cosine lat ⊗ sine d_lon)
    (p.false_northing ⊕ b ⊗ (p.cos_lat0 ⊗ sine lat ⊖ p.sin_lat0 ⊗ cosine lat ⊗ cosine d_lon)))

-- what L has about either pole, of its difference from q at the pole: ρ sin (λ - λ0) and ρ cos (λ - λ0)
abbrev pub from_pole : LambertAzimuthalEqualArea → Float → Float → Float × Float
from_pole p d_lon difference = let rho = p.a ⊗ root (max_zero difference) in (rho ⊗ sine d_lon, rho ⊗ cosine d_lon)

-- L about the north pole: 21-30 and 21-31 with ρ of 24-23, a difference below 0 taken for 0
unfoldable pub north_polar_forward : LambertAzimuthalEqualArea → Float → Float → Answer
north_polar_forward p d_lon q =
    let rho = p.a ⊗ root (max_zero (p.q_p ⊖ q)) in
    ensure_finite_xy (p.false_easting ⊕ rho ⊗ sine d_lon) (p.false_northing ⊖ rho ⊗ cosine d_lon)

-- L about the south pole: 21-30 and 24-24 with ρ of 24-25, likewise
unfoldable pub south_polar_forward : LambertAzimuthalEqualArea → Float → Float → Answer
south_polar_forward p d_lon q =
    let rho = p.a ⊗ root (max_zero (p.q_p ⊕ q)) in
    ensure_finite_xy (p.false_easting ⊕ rho ⊗ sine d_lon) (p.false_northing ⊕ rho ⊗ cosine d_lon)

-- L elsewhere: 24-17 and 24-18 with B of 24-19; the antipode as for S
unfoldable pub oblique_forward : LambertAzimuthalEqualArea → Float → Float → Answer
oblique_forward p d_lon q =
    let beta = authalic_latitude q p.q_p in
    let denom = one ⊕ p.sin_beta0 ⊗ sine beta ⊕ p.cos_beta0 ⊗ cosine beta ⊗ cosine d_lon in
    let b = p.rq ⊗ root (two ⊘ denom) in
    cond (denom ≼ +0) (Err Antipode)
    (ensure_finite_xy
    (p.false_easting ⊕ b ⊗ p.d ⊗ cosine beta ⊗ sine d_lon)
    (p.false_northing ⊕ b ⊘ p.d ⊗ (p.cos_beta0 ⊗ sine beta ⊖ p.sin_beta0 ⊗ cosine beta ⊗ cosine d_lon)))

-- L by its aspect
unfoldable pub ellipsoidal_forward : Aspect → LambertAzimuthalEqualArea → Float → Float → Answer
ellipsoidal_forward NorthPolar = north_polar_forward
ellipsoidal_forward SouthPolar = south_polar_forward
ellipsoidal_forward Oblique = oblique_forward

unfoldable pub projected : LambertAzimuthalEqualArea → Float → Float → Answer
projected p d_lon lat = cond p.spherical (spherical_forward p d_lon lat) (ellipsoidal_forward p.aspect p d_lon (authalic_q lat p.e2))

unfoldable pub forward : LambertAzimuthalEqualArea → Float → Float → Answer
forward p lon lat = entered (λ d_lon. projected p d_lon lat) (enter lon lat p.lon0)
