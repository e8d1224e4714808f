-- What is folded is the definition.
use Rattle.std.proofs.Common.{◌∙◌, ◌&&◌, true, rules, tests}
use Rattle.std.proofs.lemmas.Iterator.{YieldsList-from_slice}
use Rattle.std.proofs.lemmas.Iterator.Consumers.{fold_from_yields_List}
use Rattle.nearest.specs.Nearest.{coordinate}
use Rattle.nearest.proofs.Lists.{coordinates_on}
use Rattle.nearest.proofs.coordinates.coordinates.Goals as goal

pub returns : goal.returns
returns c =
    fold_from_yields_List _ (λ b x. b && coordinate x) true _ c.fold.ensures.ran (YieldsList-from_slice c.args.list.now (cc)) (λ a x b q k. search (rules, tests))
    ∙ coordinates_on c.args.list.now true
