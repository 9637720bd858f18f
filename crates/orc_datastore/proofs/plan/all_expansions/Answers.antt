use Rattle.orc_datastore.proofs.Sighting.{all_expanded}
use Rattle.orc_datastore.proofs.plan.all_expansions.Goals as goal

pub returns : goal.returns
returns c =
    all_expanded c.args.decls.now.names c.loop-one.left.now c.args.actions.now c.args.made.now c.loop-one.one-index c.loop-one.expansions
    c.loop-one-test.false c.loop-one.invariant
