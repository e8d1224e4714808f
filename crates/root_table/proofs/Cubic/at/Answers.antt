-- The code's rows are the entries of the keys 0 to 255, in order: one equation of lists, which is computed. Past them it is the last one's.
use Rattle.std.proofs.Common.{ap, arith, sym}
use Rattle.std.proofs.lemmas.List.FromFn.{get_or-map-range_with_len}
use Rattle.root_table.specs.Entry.{entry_at}
use Rattle.root_table.specs.Table.{TABLE, cubic_of, cubic}
use Rattle.root_table.proofs.OtherKeys.{last, past}
use Rattle.root_table.proofs.Cubic.at.Goals as goal

pub returns-then-k-lt256 : goal.returns-then-k-lt256
unfolding cubic entry_at
returns-then-k-lt256 c = ap cubic_of (get_or-map-range_with_len (λ k. entry_at k 64 TABLE (0, 0)) 0 256 c.args.k c.args.k (0, 0) (omega arith) (omega arith))

pub returns-else-k-lt256 : goal.returns-else-k-lt256
unfolding cubic last
returns-else-k-lt256 c = ap cubic_of (sym (past c.args.k 64 TABLE (0, 0) c.if-k-lt256.false))
