use Rattle.orc_services.proofs.Turns.{added_to}
use Rattle.orc_services.proofs.actions.expand_actions.Goals as goal

pub returns-clause-outcome : goal.returns-clause-outcome
returns-clause-outcome c =
    let gives = c.in_ok-outcome.ensures.outcome in (
      gives.0,
      added_to c.args.reads.now.reads c.append.new.self.reads c.expand_all.new.reads.reads c.new-read.result.reads _
          c.in_ok-append.ensures.ok gives.1 c.new-read.ensures,
    )
