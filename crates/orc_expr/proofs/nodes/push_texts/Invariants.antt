use Rattle.std.proofs.Common.{◌≡◌, ◌++◌, take}
use Rattle.orc_expr.proofs.nodes.push_texts.Given as goal

abbrev pub invariant-loop-text : goal.invariant-loop-text
invariant-loop-text l = l.texts ≡ l.fn.texts ++ take l.text-index l.more
