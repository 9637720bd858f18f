use Rattle.orc_hub_parts.proofs.Pasts.{not_due}
use Rattle.orc_hub_parts.proofs.Replayed.{refused_by}
use Rattle.orc_hub_parts.proofs.past.commit.Goals as goal

-- what is answered without a change isn't due
pub returns-clause-illegal : goal.returns-clause-illegal
returns-clause-illegal c = λ ok lawful due.
    let old = c.args.state.now in
    let refused = refused_by c.args.decls.now old c.replay.new.self c.args.call.now c.in_ok-replay.field-0 c.in_ok-replay.ensures c.in-Err.field-0 c.in-Err.is in
    not_due c.args.decls.now old.history c.args.call.now c.in-Err.field-0 refused.0 due
