-- The sine of the opposite number is the opposite number, and the cosine is the same.
use mathlib.Core.Path.{◌≡◌, refl, sym}
use mathlib.Core.Bool.{true, false}
use lib.Ieee.{Float, nan, inf, fin, neg}
use Rattle.float.specs.Sign.{negative, abs}
use Rattle.float.proofs.SignLaws.{neg_neg}
use Rattle.trigonometry.specs.Trigonometry.{quarters_of, rest_of, sine, cosine}

pub sine_odd : (x : Float) → sine (neg x) ≡ neg (sine x)
unfolding sine quarters_of rest_of abs negative neg
sine_odd nan = refl
sine_odd (inf true) = refl
sine_odd (inf false) = refl
sine_odd (fin true m e) = sym (neg_neg _)
sine_odd (fin false m e) = refl

pub cosine_even : (x : Float) → cosine (neg x) ≡ cosine x
unfolding cosine quarters_of rest_of abs negative neg
cosine_even nan = refl
cosine_even (inf true) = refl
cosine_even (inf false) = refl
cosine_even (fin true m e) = refl
cosine_even (fin false m e) = refl
