use Rattle.std.proofs.Common.{drop}
use Rattle.serde_json.specs.View.{items_view}
use Rattle.orc_json.proofs.Keyed.{ValuesGoOn}
use Rattle.orc_json.proofs.texts.values_of.Given as goal

abbrev pub invariant-loop-row : goal.invariant-loop-row
invariant-loop-row l = ValuesGoOn l.fn.kind l.fn.depth l.fn.rows (drop l.row-index l.fn.rows) (items_view l.values.items)
