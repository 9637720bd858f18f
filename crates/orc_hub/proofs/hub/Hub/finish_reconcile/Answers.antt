use Rattle.orc_hub.proofs.hub.Hub.finish_reconcile.Goals as goal

pub returns-clause-kept : goal.returns-clause-kept
returns-clause-kept g c =
    c.each_mending_ended_keeps.ensures c.args.self.now c.finish_mending.new.self c.finish_mending.result c.requires.up c.finish_mending.ensures
