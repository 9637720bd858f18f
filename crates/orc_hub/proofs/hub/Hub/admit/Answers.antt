use Rattle.orc_hub.proofs.hub.Hub.admit.Goals as goal

pub returns-clause-kept : goal.returns-clause-kept
returns-clause-kept g c = c.each_admission_keeps.ensures c.args.self.now c.admit_first.new.self c.admit_first.result c.requires.up c.requires.mended c.admit_first.ensures
