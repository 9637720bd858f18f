use Rattle.std.specs.FinMap.{get}
use Rattle.orc_revalidate.proofs.Standing.{is_there, is_nowhere}
use Rattle.orc_revalidate.proofs.led.is_absent.Goals as goal

pub returns-in-Some : goal.returns-in-Some
returns-in-Some c = is_there c.args.steps.now (get c.args.tree.now c.args.steps.now) c.in-Some._row.now c.in-Some.ensures

pub returns-in-None : goal.returns-in-None
returns-in-None c = is_nowhere c.args.steps.now (get c.args.tree.now c.args.steps.now) c.in-None.ensures
