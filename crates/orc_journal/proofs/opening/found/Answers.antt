-- What is read leaves the disk as it is, and the gate may come.
use Rattle.orc_journal.proofs.Leaving.{LeavesOpening-refl}
use Rattle.orc_journal.proofs.opening.found.Goals as goal

pub returns-in_err-contents-clause-leaves : goal.returns-in_err-contents-clause-leaves
returns-in_err-contents-clause-leaves g c = LeavesOpening-refl g.D.Disk.disk g.met.D.Disk.only_now c.args.decls.now c.args.disk.now
