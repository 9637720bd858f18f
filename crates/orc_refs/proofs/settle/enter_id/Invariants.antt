use Rattle.std.proofs.Common.{◌≡◌, ◌++◌, take, drop}
use Rattle.orc_refs.specs.inside.Settling.{enter_id}
use Rattle.orc_refs.proofs.settle.enter_id.Given as goal

-- the ids so far come before it
abbrev pub invariant-loop-at : goal.invariant-loop-at
invariant-loop-at l = record {
  same : l.ids.items ≡ l.fn.ids.items;
  before : enter_id l.id l.fn.ids.items ≡ take l.at l.fn.ids.items ++ enter_id l.id (drop l.at l.fn.ids.items);
}
