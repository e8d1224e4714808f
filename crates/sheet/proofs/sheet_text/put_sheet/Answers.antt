-- A sheet over the limit, another first line, or the names line and the answers.
use Prim.Native.Nat.{ℕ}
use mathlib.Core.Path.{◌≡◌, refl, sym, ap, ◌∙◌}
use mathlib.Core.List.{List, ◌++◌}
use native.Mathlib.Omega.{arith}
use lib.ListN.{length, drop, length-append, length-drop}
use Rattle.refusals.specs.declared.Refusal.TheVariants.{SheetSize, LineForm}
use Rattle.letters.specs.Ascii.{ascii}
use Rattle.sheet.specs.SheetText.{limit, names, answer_names}
use Rattle.sheet.specs.Fields.{before}
use Rattle.sheet.proofs.Stores.{then, copied}
use Rattle.sheet.proofs.Lines.{over, right, right_rest, wrong, refused_long, over_lines, wrong_lines, not_both}
use Rattle.sheet.proofs.sheet_text.put_sheet.Goals as goal

pub put_answer-requires : goal.put_answer-requires
put_answer-requires c = omega (arith, refused_long SheetSize (omega arith), c.requires)

pub returns-then-input-gt-LIMIT : goal.returns-then-input-gt-LIMIT
unfolding limit
returns-then-input-gt-LIMIT c = let h = c.if-input-gt-LIMIT.true in
    rw (over _ h) (c.put_answer.ensures, over_lines _ h)

pub put_body-requires : goal.put_body-requires
unfolding limit names ascii
put_body-requires c =
    let first = sym c.split_line.ensures.line ∙ c.same.ensures.0 c.if-same.true in
    let e = right_rest _ c.if-input-gt-LIMIT.false first in
    omega (arith, e, ap length c.split_line.ensures.rest, length-append c.copy_from_slice.new.self (drop 9 c.args.out.now), length-drop 9 c.args.out.now, ap length c.copy_from_slice.ensures.after)

pub put_answer-requires-else-same : goal.put_answer-requires-else-same
put_answer-requires-else-same c = omega (arith, refused_long LineForm (omega arith), c.requires)

pub returns-then-same : goal.returns-then-same
unfolding limit names answer_names ascii
returns-then-same c =
    let names_copied =
    copied answer_names c.args.out.now _ 9 (omega (arith, c.requires)) refl (ap (λ (s : List ℕ). s ++ drop 9 c.args.out.now) c.copy_from_slice.ensures.after) in
    let first = sym c.split_line.ensures.line ∙ c.same.ensures.0 c.if-same.true in
    let rest = c.split_line.ensures.rest in
    rw (right _ c.if-input-gt-LIMIT.false first)
    (then _ _ _ answer_names _ 0 _ _ names_copied (rw rest at c.put_body.ensures.0), λ _ _. rw rest at c.put_body.ensures.1)

pub returns-else-same : goal.returns-else-same
unfolding limit names ascii
returns-else-same c =
    let short = c.if-input-gt-LIMIT.false in
    let other = c.if-same.false in
    let says = λ (n : before 10 c.args.input.now ≡ names). c.same.ensures.1 (c.split_line.ensures.line ∙ n) in
    rw (wrong _ short _ other says) (c.put_answer-else-same.ensures, wrong_lines _ short (λ n. not_both other (says n)))
