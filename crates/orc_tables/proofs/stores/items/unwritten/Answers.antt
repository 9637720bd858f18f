use Rattle.orc_tables.proofs.HoldingLaws.{nothing_held}
use Rattle.orc_tables.proofs.stores.items.unwritten.Goals as goal

pub returns : goal.returns
returns c = nothing_held c.in_ok-refs.refs c.args.base c.args.service.now c.in_ok-refs.ensures
