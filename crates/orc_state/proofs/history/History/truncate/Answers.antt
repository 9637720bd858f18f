use Rattle.orc_state.proofs.Finding.{fewer}
use Rattle.orc_state.proofs.history.History.truncate.Goals as goal

pub invariant_of-self : goal.invariant_of-self
invariant_of-self c =
    fewer c.args.count c.self.inside.calls.items c.truncate.new.self.items c.self.inside.places c.self.invariant c.truncate.ensures.items
