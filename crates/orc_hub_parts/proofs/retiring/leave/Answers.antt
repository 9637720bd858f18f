use Rattle.std.proofs.Common.{rules}
use Rattle.std.proofs.lemmas.Fn.{filter_same}
use Rattle.orc_rules.specs.Transactions.{is_other}
use Rattle.orc_hub_parts.proofs.retiring.leave.Goals as goal

pub returns : goal.returns
returns c = filter_same _ (is_other c.args.t) _ (λ x b f' k. search rules) _ _ c.retain.ensures.filtered
