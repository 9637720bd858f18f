use Rattle.std.proofs.Common.{sym, ◌∙◌}
use Rattle.orc_typed.proofs.Keys.{no_kind}
use Rattle.orc_typed.proofs.canonical.no_keys.Goals as goal

pub returns-else-is_empty : goal.returns-else-is_empty
returns-else-is_empty c = no_kind c.args.keys.now (sym c.is_empty.ensures ∙ c.if-is_empty.false)
