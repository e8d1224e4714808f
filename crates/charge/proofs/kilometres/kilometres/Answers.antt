-- The started metres in thousands, rounded up.
use Rattle.std.proofs.Common.{arith}
use Rattle.charge.proofs.Started.{kilometres_are}
use Rattle.charge.proofs.kilometres.kilometres.Goals as goal

pub started_metres-requires : goal.started_metres-requires
started_metres-requires c = c.requires

pub returns : goal.returns
returns c = kilometres_are c.args.d c.started_metres.ensures.0 c.started_metres.ensures.1 (omega arith) (omega arith)
