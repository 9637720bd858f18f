use Rattle.std.proofs.Common.{◌≡◌, ◌++◌, rules}
use Rattle.orc_services.specs.Expanded.{writes_to}
use Rattle.orc_services.proofs.Writing.{pushed_fit}
use Rattle.orc_services.proofs.writes.push_writes.Goals as goal

pub returns-clause-fit : goal.returns-clause-fit
returns-clause-fit c =
    let all : c.loop-row.writes ≡ c.args.writes.now ++ writes_to c.args.name.now c.args.tree.now = search rules in
    pushed_fit c.args.name.now c.args.tree.now c.args.writes.now c.loop-row.writes c.rows-row-items.ensures.config c.requires all
