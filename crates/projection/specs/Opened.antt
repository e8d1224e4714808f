-- For theorems by computation: naming `opened` opens every definition of this crate and of those below it.
use Rattle.trigonometry.specs.Opened as trigonometry_below
use Rattle.projection.specs.Checks as checks
use Rattle.projection.specs.Longitude as longitude
use Rattle.projection.specs.Starts as starts
use Rattle.projection.specs.Ends as ends
use Rattle.projection.specs.AreaOfUse as area
use Rattle.projection.specs.MapEdge as map_edge
use Rattle.projection.specs.Iteration as iteration

unfoldable pub opened : Unit {0}
unfolding trigonometry_below.opened checks.validate_angle checks.validate_latitude_param checks.validate_offset
    checks.validate_settings checks.validate_lon_lat checks.validate_projected longitude.eastern longitude.normalize_longitude starts.enter
    starts.entered ends.ensure_finite_xy ends.ensure_finite_lon_lat ends.finish area.validate_area area.holds area.validate_place area.validate_normalised
    area.ensure_inside map_edge.beyond_edge iteration.after_step iteration.iterate iteration.compared
    iteration.converge
opened = tt
