use Rattle.std.proofs.Common.{◌++◌, List, map, sym, ap, ◌∙◌, append-nil}
use denote.Ref.{Bor}
use Rattle.std.proofs.lemmas.Result.{on_ok_weaker}
use Rattle.orc_path.specs.Steps.{PathStep}
use Rattle.orc_path.specs.declared.item.Item.{Item}
use Rattle.orc_revalidate.proofs.Standing.{row_there, row_none}
use Rattle.orc_revalidate.proofs.inside.push_row.Goals as goal

pub returns-in-Some : goal.returns-in-Some
returns-in-Some c =
    let found = map (λ (row : Bor (List PathStep × Item)). row.now) c.args.found.now.items in
    on_ok_weaker c.push_found.result (λ e. e
    ∙ ap (λ (rows : List (List PathStep × Item)). found ++ rows) (row_there c.args.tree.now c.args.steps.now c.in-Some.row.now c.in-Some.ensures)) c.push_found.ensures

pub returns-in-None : goal.returns-in-None
returns-in-None c =
    let found = map (λ (row : Bor (List PathStep × Item)). row.now) c.args.found.now.items in
    sym (append-nil found) ∙ ap (λ (rows : List (List PathStep × Item)). found ++ rows) (row_none c.args.tree.now c.args.steps.now c.in-None.ensures)
