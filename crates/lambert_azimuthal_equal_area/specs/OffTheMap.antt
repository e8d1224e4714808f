-- Document 02's Q-6 in its own words: the clicks that the second inverse refuses. proofs/OffTheMap: it refuses these by 30, and elsewhere it is the first inverse.
use Rattle.std.specs.Prelude.{Bool, not, cond, ◌&&◌, Float}
use Rattle.std.specs.Float.Ieee.Scale.{finite}
use Rattle.float.specs.Operators.{◌⊖◌, ◌≺◌}
use Rattle.float.specs.Sign.{abs}
use Rattle.root.specs.Plane.{distance}
use Rattle.lambert_azimuthal_equal_area.specs.LambertAzimuthalEqualArea.{RHO_EPSILON, EDGE}
use Rattle.lambert_azimuthal_equal_area.specs.Inverse.{oblique_rho, half_sine, north_polar_quotient, south_polar_quotient}
use Rattle.lambert_azimuthal_equal_area.specs.declared.Aspect.{Aspect}
use Rattle.lambert_azimuthal_equal_area.specs.declared.Aspect.TheVariants.{Oblique, NorthPolar, SouthPolar}
use Rattle.lambert_azimuthal_equal_area.specs.declared.LambertAzimuthalEqualArea.{LambertAzimuthalEqualArea}

-- not at the centre, and beyond the edge
abbrev pub off : Float → Float → Bool
off rho quotient = not (rho ≺ RHO_EPSILON) && EDGE ≺ quotient

-- L: "rho/(2×radius), where the inverse forms it", or "the polar arcsine's quotient .. in size"
abbrev pub ellipsoidal_off : Aspect → LambertAzimuthalEqualArea → Float → Float → Bool
ellipsoidal_off NorthPolar p dx dy = let rho = distance dx dy in off rho (abs (north_polar_quotient p rho))
ellipsoidal_off SouthPolar p dx dy = let rho = distance dx dy in off rho (abs (south_polar_quotient p rho))
ellipsoidal_off Oblique p dx dy = let rho = oblique_rho p dx dy in off rho (half_sine rho p.rq)

-- S: by the plain distance, about a pole too
abbrev pub spherical_off : LambertAzimuthalEqualArea → Float → Float → Bool
spherical_off p dx dy = let rho = distance dx dy in off rho (half_sine rho p.spherical_radius)

-- 20 stands before it
abbrev pub off_map : LambertAzimuthalEqualArea → Float → Float → Bool
off_map p x y =
    let dx = x ⊖ p.false_easting in
    let dy = y ⊖ p.false_northing in
    (finite x && finite y) && cond p.spherical (spherical_off p dx dy) (ellipsoidal_off p.aspect p dx dy)
