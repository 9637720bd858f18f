use Rattle.std.proofs.Common.{◌∙◌}
use Rattle.orc_typed.proofs.Keys.{is_no_key}
use Rattle.orc_typed.proofs.typed.has_no_key.Goals as goal

pub returns : goal.returns
returns c = c.is_empty.ensures ∙ is_no_key c.args.keys.now
