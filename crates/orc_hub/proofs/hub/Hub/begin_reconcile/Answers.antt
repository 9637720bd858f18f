use Rattle.orc_hub.proofs.Wholly.{begun_or_same}
use Rattle.orc_hub.proofs.hub.Hub.begin_reconcile.Goals as goal

pub returns-clause-kept : goal.returns-clause-kept
returns-clause-kept g c =
    begun_or_same g.D.Disk.disk c.args.self.now c.begin_mending.new.self c.begin_mending.result c.begin_mending.ensures.ok c.begin_mending.ensures.err
    (c.each_mending_begun_keeps.ensures c.args.self.now c.requires.idle)
