use Rattle.orc_decls.proofs.Fits.{call-fits}
use Rattle.orc_datastore.proofs.Planning.{differs_inside}
use Rattle.orc_datastore.proofs.Sighting.{call_keys, lawful_actions}
use Rattle.orc_datastore.proofs.datastore.Datastore.data_after.Goals as goal

pub data_behind-requires-clause-fit : goal.data_behind-requires-clause-fit
data_behind-requires-clause-fit c = call-fits c.args.decls.now c.args.call.now c.requires.call

pub data_behind-requires-clause-keys : goal.data_behind-requires-clause-keys
data_behind-requires-clause-keys c = call_keys c.args.decls.now c.args.call.now c.requires.call

pub data_behind-requires-clause-changed : goal.data_behind-requires-clause-changed
data_behind-requires-clause-changed c =
    differs_inside c.args.decls.now c.args.call.now.actions c.args.self.now.data (lawful_actions c.args.decls.now c.args.call.now c.requires.call)
