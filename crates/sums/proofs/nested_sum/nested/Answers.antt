-- The chain reduces the coefficients from the last to the first, and that is the nested sum, at any degree.
use mathlib.Core.Path.{◌≡◌, ◌∙◌}
use mathlib.Core.List.{reverse}
use borrow.Author.Rules.{rules}
use Rattle.std.specs.List.{reduce}
use Rattle.std.specs.Option.{unwrap_or}
use Rattle.float.specs.Constants.{+0}
use Rattle.sums.proofs.NestedSteps.{onto, nested_reduced}
use Rattle.sums.proofs.nested_sum.nested.Goals as goal

pub returns : goal.returns
returns c =
    let e : c.unwrap_or.result ≡ unwrap_or (reduce (onto c.args.w) (reverse c.args.c.now)) +0 = search rules in
    e ∙ nested_reduced c.args.w c.args.c.now
