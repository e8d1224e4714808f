-- Where our definitions do not have the source's words, the source's words. On a sphere, e² = 0, it sets rqda to 1 and leaves β as it is.
-- proofs/AsInSource: for every f64, NaN too, they give what ours give.
use Rattle.std.specs.Prelude.{cond, Float, Result, Ok}
use Rattle.std.specs.Result.{result_and}
use Rattle.std.specs.Float.Ieee.{neg}
use Rattle.float.specs.Operators.{◌⊗◌, ◌⊘◌, ◌≈◌}
use Rattle.float.specs.Constants.{+0, half, one, two, FRAC_PI_2}
use Rattle.float.specs.Limits.{clamp}
use Rattle.root.specs.Root.{root}
use Rattle.trigonometry.specs.Trigonometry.{sine}
use Rattle.fixed.specs.Arctangent.{arcsine}
use Rattle.ellipsoid.specs.Ellipsoid as ellipsoids
use Rattle.ellipsoid.specs.declared.Ellipsoid.{Ellipsoid}
use Rattle.refusals.specs.declared.Refusal.{Refusal}
use Rattle.refusals.specs.declared.Refusal.TheVariants.{FalseEasting, FalseNorthing}
use Rattle.authalic.specs.Authalic.{authalic_q, geodetic_from_authalic}
use Rattle.projection.specs.Checks.{validate_angle, validate_offset}
use Rattle.equal_earth.specs.EqualEarth.{M}
use Rattle.equal_earth.specs.declared.EqualEarth.{EqualEarth}

-- `let (qp, rqda) = if e2 == 0.0 { (2.0, 1.0) } else { .. (qp, (0.5 * qp).sqrt()) }`
abbrev pub source_derived : Ellipsoid → Float → Float → Float → EqualEarth
source_derived ellipsoid lon0 false_easting false_northing =
    let e2 = ellipsoids.e2 ellipsoid in
    let q_p = authalic_q FRAC_PI_2 e2 in
    record { a = ellipsoid.a; e2 = e2; lon0 = lon0; false_easting = false_easting; false_northing = false_northing; q_p = cond (e2 ≈ +0) two q_p; rqda = cond (e2 ≈ +0) one (root (half ⊗ q_p)) }

-- a `result_and` is the source's `?`
abbrev pub source_new : Ellipsoid → Float → Float → Float → Result EqualEarth Refusal
source_new ellipsoid lon0 false_easting false_northing =
    result_and (validate_angle lon0)
    (result_and (validate_offset false_easting FalseEasting)
    (result_and (validate_offset false_northing FalseNorthing) (Ok (source_derived ellipsoid lon0 false_easting false_northing))))

-- `let lat = if self.e2 == 0.0 { beta } else { geodetic_from_authalic(beta, self.e2) }`
abbrev pub source_latitude : EqualEarth → Float → Float
source_latitude p psi =
    let beta = arcsine (clamp (sine psi ⊘ M) (neg one) one) in
    cond (p.e2 ≈ +0) beta (geodetic_from_authalic beta p.e2)
