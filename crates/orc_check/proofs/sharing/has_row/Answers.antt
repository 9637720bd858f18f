use Rattle.std.proofs.Common.{◌≡◌, true, ◌||◌, List, take, ap, sym, ◌∙◌, append-nil}
use Rattle.std.specs.List.{list_any}
use Rattle.std.proofs.lemmas.List.Folds.{list_any-append}
use Rattle.orc_path.specs.Steps.{PathStep}
use Rattle.orc_tree.specs.inside.Places.{above_all}
use Rattle.orc_check.specs.Validity.{row_has}
use Rattle.orc_check.specs.inside.Runs.{all_rows}
use Rattle.orc_check.proofs.Shared.{row_begins, none_above}
use Rattle.orc_check.proofs.sharing.has_row.Goals as goal

pub returns : goal.returns
returns c =
    let target = c.args.target.now in
    let has = row_has c.args.schema.now target c.args.text.now c.args.path.now in
    let front = take target.shared c.args.path.now in
    let rest = all_rows c.runs_from.result in
    let from = c.runs_from.ensures.rest in
    let above : above_all front from.front ≡ true =
    ap (λ (p : List PathStep). above_all p from.front) (sym (append-nil c.first_steps-steps.result.now ∙ c.first_steps-steps.ensures)) ∙ from.before in
    let none = none_above has front (row_begins c.args.schema.now target c.args.text.now c.args.path.now) from.front above in
    c.has_row_among.ensures ∙ ap (λ b. b || list_any has rest) (sym none)
    ∙ sym (ap (list_any has) from.parts ∙ list_any-append has from.front rest)
