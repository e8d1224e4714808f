-- What a kind uses of its settings. The others never affect its answer.
use Rattle.std.specs.Prelude.{Bool, true, false, cond}
use Rattle.float.specs.Constants.{+0}
use Rattle.letters.specs.declared.Kind.{Kind}
use Rattle.letters.specs.declared.Kind.TheVariants.{L, S, A, E, C, P, G}
use Rattle.projection.specs.declared.Settings.{Settings}

-- the origin's latitude: all but E
unfoldable pub uses_lat0 : Kind → Bool
uses_lat0 L = true
uses_lat0 S = true
uses_lat0 A = true
uses_lat0 E = false
uses_lat0 C = true
uses_lat0 P = true
uses_lat0 G = true

-- the standard parallels: A alone
unfoldable pub uses_parallels : Kind → Bool
uses_parallels L = false
uses_parallels S = false
uses_parallels A = true
uses_parallels E = false
uses_parallels C = false
uses_parallels P = false
uses_parallels G = false

-- the settings, with +0 for those that the kind does not use
unfoldable pub used : Kind → Settings → Settings
used k s =
    record {
      lon0 = s.lon0;
      lat0 = cond (uses_lat0 k) s.lat0 +0;
      lat1 = cond (uses_parallels k) s.lat1 +0;
      lat2 = cond (uses_parallels k) s.lat2 +0;
      false_easting = s.false_easting;
      false_northing = s.false_northing;
    }
