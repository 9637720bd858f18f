use Rattle.std.proofs.Common.{◌≡◌, drop}
use Rattle.serde_json.specs.View.{items_view}
use Rattle.orc_json.specs.Findings.{values}
use Rattle.orc_json.specs.Readings.{find_all}
use Rattle.orc_json.proofs.values.read_values.Given as goal

abbrev pub invariant-loop-item : goal.invariant-loop-item
invariant-loop-item l = find_all (values l.fn.kind l.fn.at l.fn.name (items_view (drop l.item-index l.fn.items))) l.reading
    ≡ find_all (values l.fn.kind l.fn.at l.fn.name (items_view l.fn.items)) l.fn.reading
