-- Worked values, M6 of document 01 first: cosine of FRAC_PI_2 is LO.
use Rattle.std.specs.Prelude.{◌≡◌, refl, true, [], ◌∷◌}
use Rattle.std.specs.Float.{nan, inf}
use Rattle.std.specs.Float.Ieee.{neg}
use Rattle.float.specs.Operators.{f64}
use Rattle.float.specs.Constants.{+0, one, two, three, FRAC_PI_2, LO, TURN}
use Rattle.trigonometry.specs.Trigonometry.{sine, cosine, tangent}
use Rattle.trigonometry.specs.Turns.{rem_euclid}
use Rattle.trigonometry.specs.Opened.{opened}

pub vectors :
    (cosine FRAC_PI_2 ∷ cosine three ∷ sine one ∷ sine (neg +0) ∷ sine (f64 0xc059000000000000)
    ∷ sine (f64 0x4480f0cf064dd592) ∷ sine (inf true) ∷ tangent two ∷ rem_euclid (neg one) ∷ rem_euclid (neg TURN) ∷ [])
    ≡ (LO ∷ f64 0xbfefae04be85e5d2 ∷ f64 0x3feaed548f090cee ∷ neg +0 ∷ f64 0x3fe03425b78c4d9b
    ∷ f64 0x3febf809b25497f6 ∷ nan ∷ f64 0xc0017af62e0950f8 ∷ f64 0x401521fb54442d18 ∷ neg +0 ∷ [])
unfolding opened
vectors = refl
