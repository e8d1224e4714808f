-- The source's named ellipsoids: the semi-major axis in metres, and 1 over the inverse flattening, divided once.
use Rattle.std.specs.Prelude.{◌≡◌, refl, [], ◌∷◌, ℕ, ◌^◌, Float}
use Rattle.std.specs.Float.Ieee.{of_bits, round, div}
use Rattle.float.specs.Operators.{◌⊘◌, f64}
use Rattle.float.specs.Constants.{+0, one, ratio}
use Rattle.ellipsoid.specs.declared.Ellipsoid.{Ellipsoid}
use Rattle.ellipsoid.specs.declared.names.Name.{Name}
use Rattle.ellipsoid.specs.declared.names.Name.TheVariants.{Wgs84, Grs80, Clarke1866, Intl1924, Bessel1841, Krassowsky, Airy1830, UnitSphere, Wgs84Sphere}

-- a and f by their bits
abbrev by_bits : ℕ → ℕ → Ellipsoid
by_bits a f = record { a = f64 a; f = f64 f }

unfoldable pub named : Name → Ellipsoid
named Wgs84 = by_bits 0x415854a640000000 0x3f6b775a84f3e128
named Grs80 = by_bits 0x415854a640000000 0x3f6b775a87362105
named Clarke1866 = by_bits 0x415854b79999999a 0x3f6bc580d1f68cb5
named Intl1924 = by_bits 0x415854e500000000 0x3f6b951e2b18ff23
named Bessel1841 = by_bits 0x415853ed49eb851f 0x3f6b624dafda3516
named Krassowsky = by_bits 0x415854c140000000 0x3f6b765864ec84d9
named Airy1830 = by_bits 0x41585416d9581062 0x3f6b5e4587dfa571
named UnitSphere = by_bits 0x3ff0000000000000 0
named Wgs84Sphere = by_bits 0x41584dafcb958106 0

-- an ellipsoid by the decimals of its axis and its inverse flattening
abbrev by_decimals : Float → Float → Ellipsoid
by_decimals a rf = record { a = a; f = one ⊘ rf }

abbrev of_radius : Float → Ellipsoid
of_radius a = record { a = a; f = +0 }

pub named_are : (named Wgs84 ∷ named Grs80 ∷ named Clarke1866 ∷ named Intl1924 ∷ named Bessel1841 ∷ named Krassowsky ∷ named Airy1830 ∷ named UnitSphere ∷ named Wgs84Sphere ∷ [])
    ≡ (by_decimals (ratio 6378137 1) (ratio 298257223563 (10 ^ 9))
    ∷ by_decimals (ratio 6378137 1) (ratio 298257222101 (10 ^ 9))
    ∷ by_decimals (ratio 63782064 (10 ^ 1)) (ratio 294978698214 (10 ^ 9))
    ∷ by_decimals (ratio 6378388 1) (ratio 297 1)
    ∷ by_decimals (ratio 6377397155 (10 ^ 3)) (ratio 2991528128 (10 ^ 7))
    ∷ by_decimals (ratio 6378245 1) (ratio 2983 (10 ^ 1))
    ∷ by_decimals (ratio 6377563396 (10 ^ 3)) (ratio 2993249646 (10 ^ 7))
    ∷ of_radius (ratio 1 1)
    ∷ of_radius (ratio 6371007181 (10 ^ 3))
    ∷ [])
unfolding named of_bits round div
named_are = refl
