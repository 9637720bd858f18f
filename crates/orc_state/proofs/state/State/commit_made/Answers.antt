use Rattle.std.proofs.Common.{length, ap, ◌∙◌}
use Rattle.orc_datastore.specs.States.{opening}
use Rattle.orc_state.specs.States.{State}
use Rattle.std.specs.Prelude.{unwrap_or}
use Rattle.orc_state.proofs.Conflicts.{along_count}
use Rattle.orc_state.proofs.Committing.{committed}
use Rattle.orc_state.proofs.state.State.commit_made.Goals as goal

pub enter-requires-clause-count : goal.enter-requires-clause-count
enter-requires-clause-count c =
    along_count c.args.decls.now (opening c.args.decls.now) c.args.self.now.history c.args.self.now.writes c.requires.state.writes

pub returns-in-Ok : goal.returns-in-Ok
returns-in-Ok c =
    committed c.args.decls.now c.args.self.now c.requires.state c.args.call c.requires.call c.args.row c.args.next (unwrap_or c.args.made c.args.call.actions) c.requires.new c.requires.behind
    c.requires.actions c.requires.apart c.requires.row c.enter.result c.in-Ok.field-0 c.enter.new.self c.len.result c.in-Ok.is c.enter.ensures
    (c.len.ensures ∙ ap (λ (s : State). length s.history) c.self-in-Ok.view_is)
