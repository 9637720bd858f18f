use Rattle.orc_expr.specs.Parts.{condition_of}
use Rattle.orc_expr.proofs.Sound.{judged_sound}
use Rattle.orc_expr.proofs.expr.Cond.holds.Goals as goal

pub returns-clause-sound : goal.returns-clause-sound
returns-clause-sound g c = judged_sound (condition_of c.args.self.now) c.args.here.now (g.V.DataView.viewed c.args.view.now)
