-- Each field stands at its place, a flag and the aspect by their numbers.
use mathlib.Core.Path.{refl}
use Rattle.packing.specs.Packing.{lambert_of}
use Rattle.packing.proofs.Places.{flag_read}
use Rattle.packing.proofs.own.lambert.Goals as goal

pub returns : goal.returns
unfolding lambert_of
returns c = rw c.with_zeros.ensures (refl, rw (c.pick-spherical.ensures, flag_read c.args.p.spherical, c.aspect_number-aspect.ensures) refl)
