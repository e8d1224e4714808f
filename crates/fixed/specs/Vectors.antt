-- Worked values.
use Rattle.std.specs.Prelude.{◌≡◌, refl, true, false, [], ◌∷◌}
use Rattle.std.specs.Float.{nan, inf}
use Rattle.std.specs.Float.Ieee.{neg}
use Rattle.float.specs.Operators.{f64}
use Rattle.float.specs.Constants.{+0, one, two, four, half, PI, FRAC_PI_2, ratio}
use Rattle.fixed.specs.Arctangent.{arctangent, arcsine, FRAC_3_PI_4, atan2}
use Rattle.fixed.specs.Logarithm.{ln}
use Rattle.fixed.specs.Powers.{powf_3_2}
use Rattle.fixed.specs.Opened.{opened}

pub vectors :
    (arctangent one ∷ arctangent (neg two) ∷ arcsine half ∷ arcsine (neg one) ∷ arcsine two
    ∷ atan2 +0 (neg one) ∷ atan2 (neg one) (neg one) ∷ atan2 (inf false) (inf true)
    ∷ ln two ∷ ln (f64 1) ∷ ln (neg +0) ∷ powf_3_2 four ∷ [])
    ≡ (f64 0x3fe921fb54442d19 ∷ f64 0xbff1b6e192ebbe44 ∷ f64 0x3fe0c152382d7367 ∷ neg FRAC_PI_2 ∷ nan
    ∷ PI ∷ neg FRAC_3_PI_4 ∷ FRAC_3_PI_4
    ∷ f64 0x3fe62e42fefa39ef ∷ f64 0xc0874385446d71c3 ∷ inf true ∷ ratio 8 1 ∷ [])
unfolding opened
vectors = refl
