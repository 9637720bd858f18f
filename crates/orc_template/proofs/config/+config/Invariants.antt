use Rattle.std.proofs.Common.{◌≡◌, drop}
use Rattle.serde_json.specs.View.{items_view, members_view}
use Rattle.orc_template.specs.Writing.{members_done, entries_done}
use Rattle.orc_template.specs.inside.Machine.{scene}
use Rattle.orc_template.proofs.config.+config.Given as goal

abbrev pub invariant-do_members-loop-name : goal.invariant-do_members-loop-name
invariant-do_members-loop-name g l =
    members_done (scene (g.V.DataView.viewed l.fn.view) l.fn.here) l.fn.schema l.fn.keys l.fn.at (members_view l.name-iterator) l.writing
    ≡ members_done (scene (g.V.DataView.viewed l.fn.view) l.fn.here) l.fn.schema l.fn.keys l.fn.at (members_view l.fn.members.entries) l.fn.writing

abbrev pub invariant-do_entries-loop-item : goal.invariant-do_entries-loop-item
invariant-do_entries-loop-item g l =
    entries_done (scene (g.V.DataView.viewed l.fn.view) l.fn.here) l.fn.schema l.fn.keys l.fn.at l.fn.name (items_view (drop l.item-index l.item-items)) l.writing
    ≡ entries_done (scene (g.V.DataView.viewed l.fn.view) l.fn.here) l.fn.schema l.fn.keys l.fn.at l.fn.name (items_view l.fn.items.items) l.fn.writing
