use Rattle.std.proofs.Common.{ap, ◌∙◌}
use Rattle.orc_json.specs.Readings.{rows_below}
use Rattle.orc_json.proofs.reader.read_entry.Goals as goal

pub returns-in_ok-rows_below-in-Ok : goal.returns-in_ok-rows_below-in-Ok
returns-in_ok-rows_below-in-Ok c =
    let given = c.in-Ok.ensures in
    (given.0, given.1, given.2, given.3, c.in_ok-rows_below-in-Ok.ensures ∙ ap (rows_below c.args.entry.now) given.4)
