-- What is read again is what was written.
use mathlib.Core.Path.{sym}
use lib.Ieee.{eq, of_bits}
use Rattle.packing.specs.Packing.{area_from}
use Rattle.packing.proofs.own.area.Goals as goal

pub returns-in-None : goal.returns-in-None
unfolding area_from eq of_bits
returns-in-None c = sym c.in-None.is

pub returns-in-Some : goal.returns-in-Some
unfolding area_from eq of_bits
returns-in-Some c = sym c.in-Some.is
