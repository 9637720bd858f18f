use Rattle.std.proofs.Common.{◌++◌, ◌∙◌}
use Rattle.orc_check.specs.Validity.{plain_steps}
use Rattle.orc_check.proofs.Entered.{enters_is}
use Rattle.orc_check.proofs.counting.is_entry.Goals as goal

pub returns : goal.returns
returns c = c.enters.ensures ∙ enters_is (c.args.steps.now ++ plain_steps c.args.names.now) c.args.path.now
