-- The latitude of a point by Newton's method, with ys for Snyder's A (18-7, 18-18) and b for his B (18-8, 18-19).
use Rattle.std.specs.Prelude.{cond, Float, Result, Ok, Err}
use Rattle.float.specs.Operators.{◌⊕◌, ◌⊖◌, ◌⊗◌, ◌⊘◌, ◌≺◌, ◌≼◌, ◌≈◌}
use Rattle.float.specs.Constants.{+0, one, two, half}
use Rattle.float.specs.Sign.{abs}
use Rattle.root.specs.Root.{root}
use Rattle.trigonometry.specs.Trigonometry.{sine, cosine, tangent}
use Rattle.refusals.specs.declared.Refusal.{Refusal}
use Rattle.refusals.specs.declared.Refusal.TheVariants.{StepAtPole}
use Rattle.projection.specs.Iteration.{iterate}
use Rattle.meridian.specs.Meridian.{meridian_arc}
use Rattle.projection.specs.declared.Step.{Step}
use Rattle.projection.specs.declared.Step.TheVariants.{More, Done}
use Rattle.american_polyconic.specs.Tolerances.{TOLERANCE, STEPS}
use Rattle.american_polyconic.specs.declared.newton.Point.{Point}

-- a over the radius of curvature in the prime vertical (Snyder 4-20)
unfoldable pub nu : Float → Float → Float
nu e2 sp = root (one ⊖ e2 ⊗ sp ⊗ sp)

-- done after a step of at most the tolerance
unfoldable pub moved : Float → Float → Step
moved dphi next = cond (abs dphi ≼ TOLERANCE) (Done next) (More next)

-- Snyder 18-9
unfoldable pub sphere_step : Float → Float → Float → Step
unfolding moved
sphere_step ys b phi =
    let tp = tangent phi in
    let dphi = (ys ⊗ (phi ⊗ tp ⊕ one) ⊖ phi ⊖ half ⊗ (phi ⊗ phi ⊕ b) ⊗ tp) ⊘ ((phi ⊖ ys) ⊘ tp ⊖ one) in
    moved dphi (phi ⊖ dphi)

-- The fraction of Snyder 18-21, both its parts doubled and its sign turned: s2ph is half of sin 2φ, c his C (18-20), ml and mlp his Ma and M', mlb his Ma² + B.
unfoldable pub fraction : Point → Float → Float → Float → Float → Float → Float
fraction p s2ph c ml mlb mlp =
    (ml ⊕ ml ⊕ c ⊗ mlb ⊖ two ⊗ p.ys ⊗ (c ⊗ ml ⊕ one))
    ⊘ (p.e2 ⊗ s2ph ⊗ (mlb ⊖ two ⊗ p.ys ⊗ ml) ⊘ c ⊕ two ⊗ (p.ys ⊖ ml) ⊗ (c ⊗ mlp ⊖ one ⊘ s2ph) ⊖ mlp ⊖ mlp)

-- The fraction at φ, whose sine and cosine are sp and cp. Ma is the meridian arc, for Snyder's series 3-21, and M' its derivative, for his series 18-17.
unfoldable pub correction : Point → Float → Float → Float → Float
unfolding fraction
correction p phi sp cp =
    let w = nu p.e2 sp in
    let ml = meridian_arc phi sp cp p.en in
    let mlp = (one ⊖ p.e2) ⊘ (w ⊗ w ⊗ w) in
    fraction p (sp ⊗ cp) (sp ⊗ w ⊘ cp) ml (ml ⊗ ml ⊕ p.b) mlp

-- the source refuses a pole, where 18-20 has no value
unfoldable pub ellipsoid_step : Point → Float → Result Step Refusal
unfolding moved correction
ellipsoid_step p phi =
    let dphi = correction p phi (sine phi) (cosine phi) in
    cond (abs (cosine phi) ≺ TOLERANCE) (Err StepAtPole) (Ok (moved dphi (phi ⊕ dphi)))

unfoldable pub step : Point → Float → Result Step Refusal
step p phi = cond (p.e2 ≈ +0) (Ok (sphere_step p.ys p.b phi)) (ellipsoid_step p phi)

-- From Snyder's first guess, A. After the last step it is 22, even where the next cosine would give 21.
unfoldable pub latitude : Point → Result Float Refusal
unfolding step
latitude p = iterate (step p) STEPS p.ys
