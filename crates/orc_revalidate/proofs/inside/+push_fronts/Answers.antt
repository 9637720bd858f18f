use Rattle.std.proofs.Common.{◌≡◌, suc, ◌-◌, ◌++◌, List, map, take, ap, ◌∙◌, arith, append_assoc}
use denote.Ref.{Bor}
use Rattle.std.proofs.lemmas.Result.{on_ok_weaker}
use Rattle.orc_path.specs.Steps.{PathStep}
use Rattle.orc_path.specs.declared.item.Item.{Item}
use Rattle.orc_revalidate.specs.inside.Inside.{row_of, front_rows}
use Rattle.orc_revalidate.proofs.Standing.{first_rows, more_rows}
use Rattle.orc_revalidate.proofs.inside.+push_fronts.Goals as goal

pub returns-then-number-eq0 : goal.returns-then-number-eq0
returns-then-number-eq0 t c =
    let found = map (λ (row : Bor (List PathStep × Item)). row.now) c.args.found.now.items in
    c.in_ok-push_row.ensures
    ∙ ap (λ (rows : List (List PathStep × Item)). found ++ rows) (first_rows c.args.tree.now c.args.path.now c.args.number c.if-number-eq0.true)

pub returns : goal.returns
returns t c =
    let tree = c.args.tree.now in
    let path = c.args.path.now in
    let k = c.args.number in
    let found = map (λ (row : Bor (List PathStep × Item)). row.now) c.args.found.now.items in
    let step : k ≡ suc (k - 1) = omega arith in
    on_ok_weaker c.push_fronts.result (λ e. e
    ∙ ap (λ (rows : List (List PathStep × Item)). rows ++ front_rows tree path (k - 1)) c.in_ok-push_row.ensures
    ∙ append_assoc found (row_of tree (take k path)) (front_rows tree path (k - 1))
    ∙ ap (λ (rows : List (List PathStep × Item)). found ++ rows) (more_rows tree path k (k - 1) step)) c.push_fronts.ensures
