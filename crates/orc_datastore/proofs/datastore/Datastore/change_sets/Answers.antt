use Rattle.orc_datastore.proofs.Comes.{come_fit, come_once}
use Rattle.orc_datastore.proofs.datastore.Datastore.change_sets.Goals as goal

pub sets_among-requires-clause-fit : goal.sets_among-requires-clause-fit
sets_among-requires-clause-fit c =
    come_fit c.args.decls.now c.args.call.now c.requires.call c.args.self.now c.args.actions.now c.requires.actions c.requires.decls c.written_is_typed.ensures

pub sets_among-requires-clause-once : goal.sets_among-requires-clause-once
sets_among-requires-clause-once c = come_once c.args.decls.now c.args.call.now c.requires.call c.args.self.now c.args.actions.now c.requires.actions
