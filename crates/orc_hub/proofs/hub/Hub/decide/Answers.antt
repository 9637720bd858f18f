use Rattle.orc_hub.proofs.hub.Hub.decide.Goals as goal

pub returns-clause-kept : goal.returns-clause-kept
returns-clause-kept g c = c.each_decision_keeps.ensures c.args.self.now c.decide_next.new.self c.decide_next.result c.decide_next.ensures
