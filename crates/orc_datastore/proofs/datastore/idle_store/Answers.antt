use Rattle.orc_datastore.proofs.Openings.{idle-store}
use Rattle.orc_datastore.proofs.datastore.idle_store.Goals as goal

pub returns-clause-idle : goal.returns-clause-idle
returns-clause-idle c = idle-store c.in_ok-base.base c.in_ok-store.store c.in_ok-store.ensures c.base-base.ensures.store
