use Rattle.std.proofs.Common.{List, ap, ◌∙◌, append-nil}
use Rattle.std.specs.Prelude.{option_map}
use Rattle.std.specs.FinMap.{get}
use Rattle.orc_path.specs.Steps.{PathStep}
use Rattle.orc_path.specs.declared.item.Item.{Item}
use Rattle.orc_check.proofs.under.row_of_steps.Goals as goal

pub returns : goal.returns
returns c = c.row_at.ensures ∙ ap (λ (p : List PathStep). option_map (λ (item : Item). (p, item)) (get c.args.tree.now p)) (append-nil c.args.steps.now)
