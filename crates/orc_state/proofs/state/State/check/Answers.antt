use Rattle.std.proofs.Common.{subst}
use Rattle.orc_datastore.specs.Next.{IsDataAfter}
use Rattle.orc_state.proofs.Checking.{refused_first}
use Rattle.orc_state.proofs.state.State.check.Goals as goal

-- refused before what it read is looked at
pub returns : goal.returns
returns c =
    let decls = c.args.decls.now in
    let call = c.args.call.now in
    refused_first decls c.args.self.now.history call c.args.plan.now c.args.self.now.datastore c.in-Err.answer c.requires.state.datastore
    (subst (IsDataAfter decls c.args.self.now.datastore call) c.in-Err.is c.in_ok-data_with.ensures)
