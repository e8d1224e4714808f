-- Arm by arm, what the kind's inverse gives, which is on the map.
use Rattle.projection.specs.Ends.{finish}
use Rattle.lambert_azimuthal_equal_area.specs.Inverse as laea
use Rattle.albers_equal_area.specs.AlbersEqualArea as aea
use Rattle.equal_earth.specs.EqualEarth as eqearth
use Rattle.cassini_soldner.specs.CassiniSoldner as cass
use Rattle.american_polyconic.specs.AmericanPolyconic as poly
use Rattle.guam_projection.specs.GuamProjection as gm
use Rattle.kinds.specs.Kinds.{formula_of, inverse_of}
use Rattle.kinds.proofs.Built.inverse.Goals as goal

pub returns-in-Lambert : goal.returns-in-Lambert
unfolding inverse_of formula_of finish laea.inverse aea.inverse eqearth.inverse cass.inverse poly.inverse gm.inverse
returns-in-Lambert c = rw c.in-Lambert.is c.inverse.ensures

pub returns-in-Albers : goal.returns-in-Albers
unfolding inverse_of formula_of finish laea.inverse aea.inverse eqearth.inverse cass.inverse poly.inverse gm.inverse
returns-in-Albers c = rw c.in-Albers.is c.inverse-in-Albers.ensures

pub returns-in-Equal : goal.returns-in-Equal
unfolding inverse_of formula_of finish laea.inverse aea.inverse eqearth.inverse cass.inverse poly.inverse gm.inverse
returns-in-Equal c = rw c.in-Equal.is c.inverse-in-Equal.ensures

pub returns-in-Cassini : goal.returns-in-Cassini
unfolding inverse_of formula_of finish laea.inverse aea.inverse eqearth.inverse cass.inverse poly.inverse gm.inverse
returns-in-Cassini c = rw c.in-Cassini.is c.inverse-in-Cassini.ensures

pub returns-in-Polyconic : goal.returns-in-Polyconic
unfolding inverse_of formula_of finish laea.inverse aea.inverse eqearth.inverse cass.inverse poly.inverse gm.inverse
returns-in-Polyconic c = rw c.in-Polyconic.is c.inverse-in-Polyconic.ensures

pub returns-in-Guam : goal.returns-in-Guam
unfolding inverse_of formula_of finish laea.inverse aea.inverse eqearth.inverse cass.inverse poly.inverse gm.inverse
returns-in-Guam c = rw c.in-Guam.is c.inverse-in-Guam.ensures
