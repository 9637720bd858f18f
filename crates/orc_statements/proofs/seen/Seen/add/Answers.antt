use Rattle.orc_statements.proofs.Seens.{put_by}
use Rattle.orc_statements.proofs.seen.Seen.add.Goals as goal

pub returns : goal.returns
returns c = λ q. put_by c.self.inside.names.keys c.args.self.now c.insert.new.self.keys c.args.name q c.self.view_is (c.in_ok-insert.ensures.updates.0 q)
