-- What document 01 says of an ellipsoid's construction: its number, 0 where it is built (refusals/specs/Refusals), and its flattening, +0 where it is refused.
use Rattle.std.specs.Prelude.{Float, Result, Ok, Err}
use Rattle.float.specs.Constants.{+0}
use Rattle.refusals.specs.declared.Refusal.{Refusal}
use Rattle.ellipsoid.specs.declared.Ellipsoid.{Ellipsoid}

abbrev pub built_flattening : Result Ellipsoid Refusal → Float
built_flattening (Ok ellipsoid) = ellipsoid.f
built_flattening (Err r) = +0
