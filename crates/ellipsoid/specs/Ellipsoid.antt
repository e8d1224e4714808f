-- An ellipsoid by its semi-major axis a and its flattening f, and the numbers made of them, in the source's order of operations.
use Rattle.std.specs.Prelude.{cond, ◌&&◌, Float, Result, Ok, Err}
use Rattle.std.specs.Float.Ieee.Scale.{finite}
use Rattle.float.specs.Operators.{◌⊖◌, ◌⊗◌, ◌⊘◌, ◌≺◌, ◌≼◌, ◌≈◌}
use Rattle.float.specs.Constants.{+0, one, two}
use Rattle.root.specs.Root.{root}
use Rattle.trigonometry.specs.Trigonometry.{sine}
use Rattle.fixed.specs.Powers.{powf_3_2}
use Rattle.refusals.specs.declared.Refusal.{Refusal}
use Rattle.refusals.specs.declared.Refusal.TheVariants.{InverseFlattening, SemiMajorAxis, Flattening}
use Rattle.ellipsoid.specs.declared.Ellipsoid.{Ellipsoid}

-- 4 before 5. What lies in [0, 1) is finite, so f is not asked to be. specs/AsInSource has the source's words.
unfoldable pub from_a_f : Float → Float → Result Ellipsoid Refusal
from_a_f a f =
    cond (finite a && +0 ≺ a) (cond (+0 ≼ f && f ≺ one) (Ok (record { a = a; f = f })) (Err Flattening))
    (Err SemiMajorAxis)

unfoldable pub from_a_rf : Float → Float → Result Ellipsoid Refusal
unfolding from_a_f
from_a_rf a rf = cond (finite rf && one ≺ rf) (from_a_f a (one ⊘ rf)) (Err InverseFlattening)

unfoldable pub sphere : Float → Result Ellipsoid Refusal
unfolding from_a_f
sphere radius = from_a_f radius +0

-- 1/f, or 0 for a sphere
unfoldable pub inverse_flattening : Ellipsoid → Float
inverse_flattening p = cond (p.f ≈ +0) +0 (one ⊘ p.f)

-- the semi-minor axis a (1 - f)
unfoldable pub b : Ellipsoid → Float
b p = p.a ⊗ (one ⊖ p.f)

-- the first eccentricity squared, 2f - f² (Snyder's chapter 3, without a number)
unfoldable pub e2 : Ellipsoid → Float
e2 p = two ⊗ p.f ⊖ p.f ⊗ p.f

unfoldable pub e : Ellipsoid → Float
unfolding e2
e p = root (e2 p)

-- the third flattening, f / (2 - f)
unfoldable pub n : Ellipsoid → Float
n p = p.f ⊘ (two ⊖ p.f)

-- the second eccentricity squared, e² / (1 - e²) (Snyder 8-12)
unfoldable pub ep2 : Ellipsoid → Float
unfolding e2
ep2 p = e2 p ⊘ (one ⊖ e2 p)

-- 1 - e² sin² φ: both radii of curvature divide by a power of it
abbrev pub curvature : Ellipsoid → Float → Float
curvature p phi = one ⊖ e2 p ⊗ sine phi ⊗ sine phi

-- the radius of curvature in the prime vertical, ν (Snyder 4-20)
unfoldable pub n_radius : Ellipsoid → Float → Float
unfolding e2
n_radius p phi = p.a ⊘ root (curvature p phi)

-- the radius of curvature in the meridian, ρ (Snyder 4-18)
unfoldable pub m_radius : Ellipsoid → Float → Float
unfolding e2
m_radius p phi = p.a ⊗ (one ⊖ e2 p) ⊘ powf_3_2 (curvature p phi)
