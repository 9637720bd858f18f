use Rattle.std.proofs.Common.{sym, ◌++◌, ◌∷◌, []}
use Rattle.orc_decls.specs.declared.declarations.Device.{Device}
use Rattle.orc_declarations.proofs.Lawful.{pushed_forbid, past_all}
use Rattle.orc_declarations.proofs.declarations.push_forbid.Goals as goal

pub returns-then-n-devices : goal.returns-then-n-devices
returns-then-n-devices c =
    pushed_forbid c.args.n c.args.devices.now c.index-devices-n.result c.push.result c.if-n-devices.true c.args.leaf c.push.new.self c.push.ensures.ok

pub returns-else-n-devices : goal.returns-else-n-devices
returns-else-n-devices c =
    sym (past_all c.args.n (λ (e : Device). record e { forbid = e.forbid ++ c.args.leaf ∷ [] }) c.args.devices.now c.if-n-devices.false)
