-- The first line that is left, and those after it.
use Rattle.std.proofs.Common.{◌≡◌, ◌∷◌, ◌<◌, length, rules, ap}
use Rattle.sheet.specs.SheetText.{lines}
use Rattle.sheet.proofs.Lines.{next_lines, no_lines}
use Rattle.sheet.proofs.sheet_text.LinesIterator.next.Goals as goal

pub returns-then-is_empty-clause-steps : goal.returns-then-is_empty-clause-steps
returns-then-is_empty-clause-steps c = let none = no_lines c.args.self.now.0.now (search rules) in (none, none)

pub returns-clause-steps : goal.returns-clause-steps
returns-clause-steps c =
    let some : 0 < length c.args.self.now.0.now = search rules in
    rw (c.split_line.ensures.line, c.split_line.ensures.rest) (next_lines _ some)

pub returns-clause-goes : goal.returns-clause-goes
returns-clause-goes c =
    let some : 0 < length c.args.self.now.0.now = search rules in
    let next : lines c.args.self.now.0.now ≡ c.split_line.result.0.now ∷ lines c.split_line.result.1.now =
    rw (c.split_line.ensures.line, c.split_line.ensures.rest) (next_lines _ some) in
    let shorter = ap length next in
    search rules
