use Rattle.std.proofs.Common.{◌≡◌, drop}
use Rattle.std.specs.Option.{option_copied}
use Rattle.orc_refs.specs.inside.Marks.{all_are, shown}
use Rattle.orc_refs.proofs.settle.all_are.Given as goal

-- each so far is this one
abbrev pub invariant-loop-b : goal.invariant-loop-b
invariant-loop-b l = all_are (shown (drop l.b-index l.brought)) (option_copied l.item) ≡ all_are (shown l.brought) (option_copied l.item)
