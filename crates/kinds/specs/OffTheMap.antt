-- The clicks off the map, which a second inverse refuses by 30, in document 02's words. A kind that has none has no such click.
use Rattle.std.specs.Prelude.{Bool, false, Float, Result, Ok, Err}
use Rattle.refusals.specs.declared.Refusal.{Refusal}
use Rattle.lambert_azimuthal_equal_area.specs.OffTheMap as laea
use Rattle.equal_earth.specs.OffTheMap as eqearth
use Rattle.kinds.specs.declared.Built.{Built}
use Rattle.kinds.specs.declared.Built.TheVariants.{Lambert, Albers, Equal, Cassini, Polyconic, Guam}

abbrev pub off_map_of : Built → Float → Float → Bool
off_map_of (Lambert p) x y = laea.off_map p x y
off_map_of (Albers p) x y = false
off_map_of (Equal p) x y = eqearth.off_map p x y
off_map_of (Cassini p) x y = false
off_map_of (Polyconic p) x y = false
off_map_of (Guam p) x y = false

-- a projection that was refused has no map, and no click off it
abbrev pub off_map : Result Built Refusal → Float → Float → Bool
off_map (Ok b) x y = off_map_of b x y
off_map (Err r) x y = false
