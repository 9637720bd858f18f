use Rattle.std.proofs.Common.{◌∙◌}
use Rattle.orc_hub_parts.proofs.Noting.{not_long}
use Rattle.orc_hub_parts.proofs.log.Log.append_short.Goals as goal

pub returns-in-Err-clause-fits : goal.returns-in-Err-clause-fits
returns-in-Err-clause-fits g c = λ h long.
    not_long c.append.result c.args.self.now.journal.len (c.in-Err.is ∙ h) (c.append.ensures.too_long long)
