-- The constructors as the source writes them. It asks what is wrong, where our definitions ask what is right, and it asks whether f is finite too.
-- proofs/AsInSource: for every a, f and 1/f, NaN too, they answer what ours do.
use Rattle.std.specs.Prelude.{not, cond, ◌&&◌, ◌||◌, Float, Result, Ok, Err}
use Rattle.std.specs.Float.Ieee.Scale.{finite}
use Rattle.float.specs.Operators.{◌⊘◌, ◌≺◌, ◌≼◌}
use Rattle.float.specs.Constants.{+0, one}
use Rattle.ellipsoid.specs.declared.Ellipsoid.{Ellipsoid}
use Rattle.refusals.specs.declared.Refusal.{Refusal}
use Rattle.refusals.specs.declared.Refusal.TheVariants.{InverseFlattening, SemiMajorAxis, Flattening}

-- `!a.is_finite() || a <= 0.0`, then `!f.is_finite() || !(0.0..1.0).contains(&f)`
abbrev pub source_from_a_f : Float → Float → Result Ellipsoid Refusal
source_from_a_f a f =
    cond (not (finite a) || a ≼ +0) (Err SemiMajorAxis)
    (cond (not (finite f) || not (+0 ≼ f && f ≺ one)) (Err Flattening) (Ok (record { a = a; f = f })))

-- `!rf.is_finite() || rf <= 1.0`
abbrev pub source_from_a_rf : Float → Float → Result Ellipsoid Refusal
source_from_a_rf a rf = cond (not (finite rf) || rf ≼ one) (Err InverseFlattening) (source_from_a_f a (one ⊘ rf))

abbrev pub source_sphere : Float → Result Ellipsoid Refusal
source_sphere radius = source_from_a_f radius +0
