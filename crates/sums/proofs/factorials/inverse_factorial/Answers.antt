-- The table's rule, computed on the code's own array.
use mathlib.Core.Path.{refl}
use native.Mathlib.Omega.{arith}
use lib.Ieee.{of_bits, round}
use Rattle.sums.specs.Factorials.{factorial, inverse_factorial}
use Rattle.sums.proofs.FactorialTable.{tabulate, entry}
use Rattle.sums.proofs.factorials.inverse_factorial.Goals as goal

-- entry n - 2 of INVERSE_FACTORIALS is the f64 nearest to 1/n!
pub returns : goal.returns
unfolding tabulate factorial inverse_factorial of_bits round
returns c = entry _ _ refl c.args.n (omega arith) (omega arith)
