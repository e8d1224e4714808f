-- For theorems by computation: naming `opened` opens every definition of this crate and of those below it.
use Rattle.ellipsoid.specs.Opened as ellipsoid_below
use Rattle.authalic.specs.Opened as authalic_below
use Rattle.projection.specs.Opened as projection_below
use Rattle.lambert_azimuthal_equal_area.specs.LambertAzimuthalEqualArea as lambert
use Rattle.lambert_azimuthal_equal_area.specs.Forward as forward
use Rattle.lambert_azimuthal_equal_area.specs.Inverse as inverse

unfoldable pub opened : Unit {0}
unfolding ellipsoid_below.opened authalic_below.opened projection_below.opened lambert.aspect_at lambert.scale lambert.derived
    lambert.validate_positive lambert.validate_origin lambert.fault lambert.checked lambert.built lambert.new lambert.new_spherical
    forward.spherical_forward forward.north_polar_forward forward.south_polar_forward forward.oblique_forward forward.ellipsoidal_forward
    forward.projected forward.forward inverse.judge inverse.judged inverse.bounded_arcsine inverse.angular_distance inverse.spherical_formula inverse.polar_place
    inverse.north_polar_formula inverse.south_polar_formula inverse.oblique_formula inverse.ellipsoidal_formula inverse.place inverse.formula
    inverse.inverse
opened = tt
