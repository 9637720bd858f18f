use Rattle.orc_rules.proofs.OwnKinds.{own_accepts, own_base, own_is_of_hub, own_is_of_schema}
use Rattle.orc_rules.proofs.kept.devices_are_as_declared.Goals as goal

pub returns : goal.returns
returns c = λ decls device are. (
  own_is_of_hub decls device,
  own_is_of_schema decls are device,
  own_accepts decls are device,
  λ one is. own_base decls are device one is,
)
