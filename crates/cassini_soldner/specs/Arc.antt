-- The arc of the meridian by Cassini-Soldner's own four coefficients, and the series back to the latitude. The arc that the other kinds share has another series, and other bits.
use Rattle.std.specs.Prelude.{Float}
use Rattle.float.specs.Operators.{◌⊕◌, ◌⊖◌, ◌⊗◌, ◌⊘◌}
use Rattle.float.specs.Constants.{one, two, three, four}
use Rattle.trigonometry.specs.Trigonometry.{sine}
use Rattle.cassini_soldner.specs.Constants.{c5, c6, c8, c15, c16, c21, c27, c32, c35, c45, c55, c64, c96, c151, c256, c512, c1024, c1097, c3072}
use Rattle.cassini_soldner.specs.declared.arc.ArcCoefficients.{ArcCoefficients}
use Rattle.cassini_soldner.specs.declared.arc.FootpointCoefficients.{FootpointCoefficients}

-- the coefficients of Snyder 3-21, a multiplied in
unfoldable pub arc_coefficients : Float → Float → ArcCoefficients
arc_coefficients a e2 =
    let e4 = e2 ⊗ e2 in
    let e6 = e4 ⊗ e2 in
    record {
      coeff0 = a ⊗ (one ⊖ e2 ⊘ four ⊖ three ⊗ e4 ⊘ c64 ⊖ c5 ⊗ e6 ⊘ c256);
      coeff2 = a ⊗ (three ⊗ e2 ⊘ c8 ⊕ three ⊗ e4 ⊘ c32 ⊕ c45 ⊗ e6 ⊘ c1024);
      coeff4 = a ⊗ (c15 ⊗ e4 ⊘ c256 ⊕ c45 ⊗ e6 ⊘ c1024);
      coeff6 = a ⊗ (c35 ⊗ e6 ⊘ c3072);
    }

-- M (Snyder 3-21): the arc from the equator to φ
unfoldable pub meridional_arc : ArcCoefficients → Float → Float
meridional_arc arc phi =
    arc.coeff0 ⊗ phi ⊖ arc.coeff2 ⊗ sine (two ⊗ phi) ⊕ arc.coeff4 ⊗ sine (four ⊗ phi) ⊖ arc.coeff6 ⊗ sine (c6 ⊗ phi)

-- the coefficients of Snyder 3-26, by e₁
unfoldable pub footpoint_coefficients : Float → FootpointCoefficients
footpoint_coefficients e1 =
    let e1_2 = e1 ⊗ e1 in
    let e1_3 = e1_2 ⊗ e1 in
    let e1_4 = e1_2 ⊗ e1_2 in
    record {
      coeff2 = three ⊗ e1 ⊘ two ⊖ c27 ⊗ e1_3 ⊘ c32;
      coeff4 = c21 ⊗ e1_2 ⊘ c16 ⊖ c55 ⊗ e1_4 ⊘ c32;
      coeff6 = c151 ⊗ e1_3 ⊘ c96;
      coeff8 = c1097 ⊗ e1_4 ⊘ c512;
    }

-- φ₁ (Snyder 3-26): the latitude whose rectifying latitude is μ
unfoldable pub footpoint_latitude : FootpointCoefficients → Float → Float
footpoint_latitude back mu =
    mu ⊕ back.coeff2 ⊗ sine (two ⊗ mu) ⊕ back.coeff4 ⊗ sine (four ⊗ mu) ⊕ back.coeff6 ⊗ sine (c6 ⊗ mu) ⊕ back.coeff8 ⊗ sine (c8 ⊗ mu)
