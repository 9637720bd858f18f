use Rattle.std.proofs.Common.{◌++◌}
use Rattle.std.specs.FinMap.{get}
use Rattle.orc_check.specs.Validity.{plain_steps}
use Rattle.orc_check.proofs.Alone.{is_there, is_nowhere}
use Rattle.orc_check.proofs.lookup.is_absent.Goals as goal

pub returns-in-Some : goal.returns-in-Some
returns-in-Some c =
    let path = c.args.steps.now ++ plain_steps c.args.names.now in
    is_there path (get c.args.tree.now path) c.in-Some._row.now c.in-Some.ensures

pub returns-in-None : goal.returns-in-None
returns-in-None c =
    let path = c.args.steps.now ++ plain_steps c.args.names.now in
    is_nowhere path (get c.args.tree.now path) c.in-None.ensures
