-- What is ahead, with what is done, is the whole; at the end nothing is ahead but the last edge.
use Rattle.ring.specs.Tally.{rest}
use Rattle.ring.proofs.Walking.{Walking}
use Rattle.ring.proofs.walk.walk.Given as goal

abbrev pub invariant-loop-x : goal.invariant-loop-x
invariant-loop-x l = Walking l.p l.x-iterator l.first (rest l.p l.first l.lon l.lat) l.initial.easting l.initial.northing l.easting l.northing l.a l.t
