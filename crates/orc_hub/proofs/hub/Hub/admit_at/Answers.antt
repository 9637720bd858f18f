use Rattle.orc_hub.specs.Keeps.{IsAsker}
use Rattle.orc_rules.specs.Standing.{IsWaiting}
use Rattle.orc_rules.specs.declared.transaction.Waiting.{Waiting}
use Rattle.orc_rules.proofs.Entering.{All-at}
use Rattle.orc_hub.proofs.Admissions.{fields_fit}
use Rattle.orc_hub.proofs.DecisionDue.{named_there, open_there}
use Rattle.orc_hub.proofs.hub.Hub.admit_at.Goals as goal

pub admit_one-requires-clause-waits : goal.admit_one-requires-clause-waits
admit_one-requires-clause-waits g c =
    let hub = c.args.self.now in
    All-at (IsWaiting hub.decls hub.state.history) hub.waiting c.args.place c.take-it.result (c.requires.hub c.requires.up).1.kept.waits c.take-it.ensures.it

pub admit_one-requires-clause-fields : goal.admit_one-requires-clause-fields
admit_one-requires-clause-fields g c =
    let hub = c.args.self.now in
    let own = (c.requires.hub c.requires.up).1 in
    fields_fit c.planned_stands.ensures hub.decls hub.state.history c.take-it.result own.decls
    (All-at (IsWaiting hub.decls hub.state.history) hub.waiting c.args.place c.take-it.result own.kept.waits c.take-it.ensures.it)

pub admit_one-requires-clause-asks : goal.admit_one-requires-clause-asks
admit_one-requires-clause-asks g c =
    let hub = c.args.self.now in
    let it = c.take-it.result in
    open_there hub.askers it.asker it.call
    (All-at (λ (one : Waiting). IsAsker hub.askers one.asker one.call) hub.waiting c.args.place it (c.requires.hub c.requires.up).1.askers.waits c.take-it.ensures.it)

pub admit_one-requires-clause-name : goal.admit_one-requires-clause-name
admit_one-requires-clause-name g c =
    let hub = c.args.self.now in
    let it = c.take-it.result in
    named_there hub.askers it.asker it.call
    (All-at (λ (one : Waiting). IsAsker hub.askers one.asker one.call) hub.waiting c.args.place it (c.requires.hub c.requires.up).1.askers.waits c.take-it.ensures.it)
