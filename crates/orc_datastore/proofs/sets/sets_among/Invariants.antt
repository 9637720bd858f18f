use Rattle.orc_datastore.proofs.Previews.{AreSetsTo}
use Rattle.orc_datastore.proofs.sets.sets_among.Given as goal

-- the sets of the devices so far, which meet no clash
abbrev pub invariant-loop-device : goal.invariant-loop-device
invariant-loop-device l = AreSetsTo l.decls.names l.actions l.state l.sets l.device
