use Rattle.std.proofs.Common.{◌∙◌}
use Rattle.orc_statements.proofs.Seens.{has_by}
use Rattle.orc_statements.proofs.seen.Seen.has.Goals as goal

pub returns : goal.returns
returns c = c.contains.ensures ∙ has_by c.self.inside.names.keys c.args.self.now c.args.name.now c.self.view_is
