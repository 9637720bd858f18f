use Rattle.std.specs.Prelude.{Some}
use Rattle.orc_typed.proofs.Keys.{one_alone-test}
use Rattle.orc_typed.proofs.typed.is_value_key.Goals as goal

pub returns-in_default : goal.returns-in_default
returns-in_default c = one_alone-test (Some c.args.kind.now) c.args.keys.now c.in_default.len_at_least
