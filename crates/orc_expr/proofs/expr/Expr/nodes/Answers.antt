use Rattle.orc_expr.specs.Parts.{expression_of}
use Rattle.orc_expr.proofs.Sound.{nodes_sound}
use Rattle.orc_expr.proofs.expr.Expr.nodes.Goals as goal

pub returns-clause-sound : goal.returns-clause-sound
returns-clause-sound g c = nodes_sound (expression_of c.args.self.now) c.args.here.now (g.V.DataView.viewed c.args.view.now)
