use Rattle.std.proofs.Common.{◌+◌, ◌*◌, length}
use Rattle.serde_json.specs.View.{items_view, members_view}
use Rattle.orc_json.proofs.Made.{GoesOn, EntriesGoOn}
use Rattle.orc_json.proofs.object.+objects.Given as goal

abbrev pub decreases-object_of : goal.decreases-object_of
decreases-object_of l = 5 * l.left

abbrev pub decreases-put_node : goal.decreases-put_node
decreases-put_node l = 5 * l.left + 4

abbrev pub decreases-node_value : goal.decreases-node_value
decreases-node_value l = 5 * l.left + 3

abbrev pub decreases-entries_of : goal.decreases-entries_of
decreases-entries_of l = 5 * l.left + 2

abbrev pub decreases-entry_value : goal.decreases-entry_value
decreases-entry_value l = 5 * l.left + 1

abbrev pub invariant-object_of-loop-rest : goal.invariant-object_of-loop-rest
invariant-object_of-loop-rest l = GoesOn l.fn.schema l.fn.left l.fn.at l.fn.rows l.rest (members_view l.members.entries)

abbrev pub decreases-object_of-loop-rest : goal.decreases-object_of-loop-rest
decreases-object_of-loop-rest l = length l.rest

abbrev pub invariant-entries_of-loop-rest : goal.invariant-entries_of-loop-rest
invariant-entries_of-loop-rest l = EntriesGoOn l.fn.schema l.fn.left l.fn.at l.fn.names l.fn.rows l.rest (items_view l.entries.items)

abbrev pub decreases-entries_of-loop-rest : goal.decreases-entries_of-loop-rest
decreases-entries_of-loop-rest l = length l.rest
