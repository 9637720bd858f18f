use Rattle.orc_links.proofs.Noted.{performs_there}
use Rattle.orc_links.proofs.logs.perform_at.Goals as goal

pub returns-clause-ok : goal.returns-clause-ok
returns-clause-ok c =
    performs_there c.args.links.now c.args.logs.now c.args.device c.args.op c.perform_noted.result c.index-links-device.result
    c.perform_noted.new.link c.index-logs-device.result c.perform_noted.new.log c.requires.link c.requires.log
    c.perform_noted.ensures.ok
