-- Each aspect has its number.
use mathlib.Core.Path.{sym}
use lib.Ieee.{eq, of_bits}
use Rattle.packing.specs.Packing.{aspect_of}
use Rattle.packing.proofs.own.aspect_number.Goals as goal

pub returns-in-Oblique : goal.returns-in-Oblique
unfolding aspect_of eq of_bits
returns-in-Oblique c = sym c.in-Oblique.is

pub returns-in-NorthPolar : goal.returns-in-NorthPolar
unfolding aspect_of eq of_bits
returns-in-NorthPolar c = sym c.in-NorthPolar.is

pub returns-in-SouthPolar : goal.returns-in-SouthPolar
unfolding aspect_of eq of_bits
returns-in-SouthPolar c = sym c.in-SouthPolar.is
