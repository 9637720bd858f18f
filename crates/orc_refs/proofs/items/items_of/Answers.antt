use Rattle.std.proofs.Common.{◌≡◌, rules}
use Rattle.orc_refs.specs.Moves.{items_of}
use Rattle.orc_refs.proofs.ItemsLaws.{items-whole}
use Rattle.orc_refs.proofs.items.items_of.Goals as goal

pub returns-clause-whole : goal.returns-clause-whole
returns-clause-whole c =
    let all : c.loop-row.items ≡ items_of c.args.tree.now = search rules in
    items-whole c.args.tree.now c.loop-row.items c.rows-row-items.ensures.config all
