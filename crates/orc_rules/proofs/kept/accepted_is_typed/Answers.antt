use Rattle.orc_rules.proofs.OwnKinds.{own_is_typed}
use Rattle.orc_rules.proofs.kept.accepted_is_typed.Goals as goal

pub returns : goal.returns
returns c = λ decls device config are modules is_config accepted. own_is_typed decls are c.valid_is_typed.ensures device config modules is_config accepted
