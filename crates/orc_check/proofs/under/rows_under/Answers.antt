use Rattle.std.proofs.Common.{◌≡◌, ◌++◌, [], true, List, map, ap, sym, subst, ◌∙◌, append-nil, IfOk}
use Rattle.std.specs.List.{filter}
use Rattle.std.specs.FinMap.{entries}
use Rattle.std.proofs.lemmas.List.Elements.{filter-append}
use Rattle.orc_path.specs.Steps.{PathStep}
use Rattle.orc_path.specs.Order.{is_prefix}
use Rattle.orc_path.specs.declared.item.Item.{Item}
use Rattle.orc_tree.specs.inside.Places.{above_all}
use Rattle.orc_tree.proofs.Maps.{Rows}
use Rattle.orc_check.specs.inside.Runs.{all_rows}
use Rattle.orc_check.proofs.Unders.{kept_above}
use Rattle.orc_check.proofs.under.rows_under.Goals as goal

pub returns : goal.returns
returns c =
    let path = c.args.steps.now in
    let rest = all_rows c.runs_from.result in
    let from = c.runs_from.ensures.rest in
    let above : above_all path from.front ≡ true = ap (λ (p : List PathStep). above_all p from.front) (sym (append-nil path)) ∙ from.before in
    let whole : filter (λ (row : List PathStep × Item). is_prefix path row.0) rest
    ≡ filter (λ (row : List PathStep × Item). is_prefix path row.0) (entries c.args.tree.now) =
    ap (λ (r : Rows). r ++ filter (λ (row : List PathStep × Item). is_prefix path row.0) rest) (sym (kept_above path from.front above))
    ∙ sym (ap (filter (λ (row : List PathStep × Item). is_prefix path row.0)) from.parts ∙ filter-append (λ (row : List PathStep × Item). is_prefix path row.0) from.front rest) in
    subst (λ (r : Rows). IfOk c.under_among.result (λ found. map (λ row. row.now) found.items ≡ r)) whole c.under_among.ensures
