-- The iterator's item i is field i.
use Rattle.std.proofs.Common.{◌≡◌, refl}
use Rattle.std.proofs.lemmas.Iterator.Consumers.{nth_from_yields_List, YieldsList-from_first}
use Rattle.sheet.specs.Fields.{field}
use Rattle.sheet.specs.Left.{fields_left}
use Rattle.sheet.proofs.Starts.{nth_field, in_line}
use Rattle.sheet.proofs.fields.field.Goals as goal

pub returns : goal.returns
returns c =
    let item = nth_from_yields_List c.nth.result c.nth.new.self c.args.i c.nth.ensures.ran (YieldsList-from_first (λ x. x.now) fields_left _ c.new.ensures) in
    let is : c.unwrap_or.result.now ≡ field c.args.line.now c.args.i = rw c.unwrap_or.ensures (nth_field c.args.line.now c.args.i c.nth.result _ item refl) in
    record { is_field = is; in_line = in_line _ _ c.args.i is }
