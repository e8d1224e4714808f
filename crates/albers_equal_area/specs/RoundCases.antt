-- Rounds of the inverse by computation: with numbers that a caller may hand in, and as two other programs would work them out.
use Prim.Native.String.{String}
use Rattle.std.specs.Prelude.{◌≡◌, refl, Bool, false, List, [], ◌∷◌, map, Float}
use Rattle.std.specs.Float.{nan}
use Rattle.std.specs.Float.Ieee.{neg}
use Rattle.float.specs.Operators.{◌⊕◌, ◌⊖◌, ◌⊗◌, ◌⊘◌, ◌≈◌, f64}
use Rattle.float.specs.Constants.{+0, one, two, half, ratio}
use Rattle.root.specs.Root.{root}
use Rattle.trigonometry.specs.Trigonometry.{sine}
use Rattle.fixed.specs.Logarithm.{ln}
use Rattle.albers_equal_area.specs.OnEllipsoid.{latitude_round}
use Rattle.albers_equal_area.specs.GivenQuotients.{latitude_round_given}
use Rattle.albers_equal_area.specs.Opened.{opened}

-- a row: what the case is, the round that is given its quotients, and what the Rust works out
pub record Row : Type 0 where
  pub label : String
  pub worked_out : Float
  pub says : Float

abbrev row : String → Float → Float → Float → Float → Float → Row
row label q e e2 lat says =
    record { label = label; worked_out = latitude_round_given (q ⊘ (one ⊖ e2)) (one ⊘ (two ⊗ e)) e e2 lat; says = says }

-- an ellipsoid's e², near the Earth's, and a q and a latitude at which both programs below have another number than the definition
abbrev E2 : Float
E2 = ratio 1 150

abbrev Q : Float
Q = ratio 31 1024

abbrev LAT : Float
LAT = ratio 3 16

abbrev INFINITY : Float
INFINITY = f64 0x7ff0000000000000

abbrev pub table : List Row
table =
    row "an ellipsoid" Q (root E2) E2 LAT (f64 0x3f8b4e4e2e85d180)
    ∷ row "e is not the root of e²" one (ratio 3 2) (ratio 1 4) half (f64 0x3fe39369f7c2b376)
    ∷ row "e² above 1" one half two half (f64 0x3fbad225a9356210)
    ∷ row "e = 0: half over it is infinite" one +0 E2 half nan
    ∷ row "e = -0" one (neg +0) E2 half nan
    ∷ row "e² = 1: q over 0 is infinite" one half one half INFINITY
    ∷ row "e² = 1, a southern q" (neg one) half one half (neg INFINITY)
    ∷ row "e² = 1, and q = 0" +0 half one half nan
    ∷ row "q infinite" INFINITY half (ratio 1 4) half INFINITY
    ∷ row "q NaN" nan half (ratio 1 4) half nan
    ∷ row "e NaN" one nan (ratio 1 4) half nan
    ∷ row "e² NaN" one half nan half nan
    ∷ []

pub cases : map (λ (r : Row). r.worked_out) table ≡ map (λ (r : Row). r.says) table
unfolding opened
cases = refl

-- q times the reciprocal of 1 - e², in place of the quotient
abbrev by_reciprocal : Float → Float → Float → Float → Float
by_reciprocal q e e2 lat = latitude_round_given (q ⊗ (one ⊘ (one ⊖ e2))) (one ⊘ (two ⊗ e)) e e2 lat

-- the logarithm's term added to the quotient before the sine's is taken off, and then nothing for it
abbrev in_another_order : Float → Float → Float → Float → Float
in_another_order q e e2 lat =
    let e_sin = e ⊗ sine lat in
    latitude_round_given (q ⊘ (one ⊖ e2) ⊕ one ⊘ (two ⊗ e) ⊗ ln ((one ⊖ e_sin) ⊘ (one ⊕ e_sin))) +0 e e2 lat

-- whether a program's round gives the definition's number there
abbrev as_defined : (Float → Float → Float → Float → Float) → Bool
as_defined program = program Q (root E2) E2 LAT ≈ latitude_round Q (root E2) E2 LAT

pub other_programs : (as_defined by_reciprocal ∷ as_defined in_another_order ∷ []) ≡ (false ∷ false ∷ [])
unfolding opened
other_programs = refl
