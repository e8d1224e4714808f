-- For theorems by computation: naming `opened` opens every definition of this crate and of those below it.
use Rattle.ellipsoid.specs.Opened as ellipsoid_below
use Rattle.meridian.specs.Opened as meridian_below
use Rattle.projection.specs.Opened as projection_below
use Rattle.cassini_soldner.specs.Arc as arc
use Rattle.cassini_soldner.specs.Series as series
use Rattle.cassini_soldner.specs.CassiniSoldner as cassini

unfoldable pub opened : Unit {0}
unfolding ellipsoid_below.opened meridian_below.opened projection_below.opened arc.arc_coefficients arc.meridional_arc arc.footpoint_coefficients
    arc.footpoint_latitude series.easting_series series.northing_series series.longitude_series series.latitude_series cassini.derived cassini.new
    cassini.projected cassini.forward cassini.place cassini.from_footpoint cassini.footpoint cassini.formula cassini.inverse
opened = tt
