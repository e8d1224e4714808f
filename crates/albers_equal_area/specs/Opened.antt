-- For theorems by computation: naming `opened` opens every definition of this crate and of those below it.
use Rattle.ellipsoid.specs.Opened as ellipsoid_below
use Rattle.projection.specs.Opened as projection_below
use Rattle.albers_equal_area.specs.Parallels as parallels
use Rattle.albers_equal_area.specs.OnEllipsoid as ellipsoid
use Rattle.albers_equal_area.specs.GivenQuotients as given
use Rattle.albers_equal_area.specs.OnSphere as sphere
use Rattle.albers_equal_area.specs.AlbersEqualArea as albers

unfoldable pub opened : Unit {0}
unfolding ellipsoid_below.opened projection_below.opened parallels.cone_constant ellipsoid.m_func ellipsoid.q_func ellipsoid.ellipsoid_cone
    ellipsoid.latitude_round ellipsoid.lat_from_q given.latitude_round_given sphere.is_sphere sphere.sphere_q sphere.sphere_cone sphere.sphere_latitude albers.parallel_radius
    albers.cone albers.derived albers.checked albers.new albers.q_of_latitude albers.projected albers.forward albers.latitude_of_q
    albers.theta_of_offset albers.q_of_offset albers.place albers.formula albers.inverse
opened = tt
