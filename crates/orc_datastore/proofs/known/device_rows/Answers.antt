use Rattle.std.proofs.Common.{List, ap, ◌∙◌}
use Rattle.std.specs.FinMap.{keys}
use Rattle.std.specs.List.{filter}
use Rattle.std.proofs.lemmas.Result.{IfOk-weaker}
use Rattle.orc_path.specs.Configurations.{is_entry_of}
use Rattle.orc_path.specs.Steps.{PathStep}
use Rattle.orc_datastore.proofs.Marking.{rows_there}
use Rattle.orc_datastore.proofs.known.device_rows.Goals as goal

pub returns : goal.returns
returns c =
    IfOk-weaker c.keys_under.result _ _
    (λ rows is.
    rows_there c.args.known.now c.args.id.now rows.items
    (is ∙ ap (λ (list : List PathStep). filter (is_entry_of list) (keys c.args.known.now)) c.in_ok-list.ensures))
    c.keys_under.ensures.keys
