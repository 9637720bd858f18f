use Rattle.std.proofs.Common.{◌≡◌, drop}
use Rattle.serde_json.specs.View.{items_view}
use Rattle.orc_template.specs.Writing.{values_done}
use Rattle.orc_template.specs.inside.Machine.{scene}
use Rattle.orc_template.proofs.config.do_values.Given as goal

abbrev pub invariant-loop-item : goal.invariant-loop-item
invariant-loop-item g l =
    values_done (scene (g.V.DataView.viewed l.view) l.here) l.kind l.at l.name (items_view (drop l.item-index l.items)) l.writing
    ≡ values_done (scene (g.V.DataView.viewed l.view) l.here) l.kind l.at l.name (items_view l.items) l.fn.writing
