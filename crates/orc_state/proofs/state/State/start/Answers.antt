use Rattle.orc_state.proofs.Fronts.{starts}
use Rattle.orc_state.proofs.state.State.start.Goals as goal

pub returns-clause-state : goal.returns-clause-state
returns-clause-state c =
    starts c.args.decls.now c.in_ok-open.field-0 c.new.result c.new-2.result c.in_ok-open.ensures.opening c.in_ok-open.ensures.kept c.new.ensures c.new-2.ensures
