use Rattle.std.proofs.Common.{◌≡◌, ◌++◌, List, [], sym, ap, ◌∙◌, arith}
use Rattle.std.specs.Ordering.{ordering_reverse}
use Rattle.orc_path.specs.Steps.{PathStep}
use Rattle.orc_path.specs.Order.{path_cmp}
use Rattle.orc_path.proofs.PathOrder.{path_cmp_total}
use Rattle.orc_tree.proofs.Listing.{nil_from_length}
use Rattle.orc_check.specs.Validity.{plain_steps}
use Rattle.orc_check.proofs.order.+order.Goals as goal

pub returns-in-empty : goal.returns-in-empty
returns-in-empty t c =
    let others = c.args.others.now ++ plain_steps c.args.other_names.now in
    let none : c.args.steps.now ≡ [] = nil_from_length c.args.steps.now (omega arith) in
    c.reverse.ensures ∙ ap ordering_reverse c.order_plain.ensures
    ∙ sym (path_cmp_total.antisymm (plain_steps c.args.names.now) others)
    ∙ ap (λ (steps : List PathStep). path_cmp (steps ++ plain_steps c.args.names.now) others) (sym none)
