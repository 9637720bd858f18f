use Rattle.orc_datastore.proofs.Devices.{AreClear}
use Rattle.orc_datastore.proofs.stores.stores_behind.Given as goal

-- the changes of the stores so far, which meet no clash
abbrev pub invariant-loop-device : goal.invariant-loop-device
invariant-loop-device l = AreClear l.decls.names l.live l.actions l.stores l.changes l.device
