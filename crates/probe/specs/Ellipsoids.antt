-- An ellipsoid by its numbers, checked or not.
use Rattle.std.specs.Prelude.{Float}
use Rattle.ellipsoid.specs.declared.Ellipsoid.{Ellipsoid}

abbrev pub of : Float → Float → Ellipsoid
of a f = record { a = a; f = f }
