use Rattle.orc_hub.proofs.Submissions.{queued_number}
use Rattle.orc_hub.proofs.hub.Hub.submit.Goals as goal

pub returns-clause-number : goal.returns-clause-number
returns-clause-number g c =
    queued_number g.D.Disk.disk c.args.self.now c.args.call c.args.front c.args.plan c.submit_call.result c.submit_call.new.self c.submit_call.ensures

pub returns-clause-kept : goal.returns-clause-kept
returns-clause-kept g c =
    c.each_submission_keeps.ensures c.args.self.now c.submit_call.new.self c.args.call c.args.front c.args.plan c.submit_call.result
    c.requires.call c.requires.front c.requires.plan c.submit_call.ensures
