use Rattle.std.proofs.Common.{◌≡◌, drop}
use Rattle.serde_json.specs.View.{items_view, members_view}
use Rattle.orc_json.specs.Findings.{members_at, entries_at}
use Rattle.orc_json.specs.Readings.{find_all}
use Rattle.orc_json.proofs.members.+members.Given as goal

abbrev pub invariant-read_members-loop-name : goal.invariant-read_members-loop-name
invariant-read_members-loop-name l = find_all (members_at l.fn.schema l.fn.keys l.fn.at (members_view l.name-iterator)) l.reading
    ≡ find_all (members_at l.fn.schema l.fn.keys l.fn.at (members_view l.fn.members.entries)) l.fn.reading

abbrev pub invariant-read_entries-loop-item : goal.invariant-read_entries-loop-item
invariant-read_entries-loop-item l =
    find_all (entries_at l.fn.schema l.fn.keys l.fn.at l.fn.name (items_view (drop l.item-index l.item-items))) l.reading
    ≡ find_all (entries_at l.fn.schema l.fn.keys l.fn.at l.fn.name (items_view l.fn.items.items)) l.fn.reading
