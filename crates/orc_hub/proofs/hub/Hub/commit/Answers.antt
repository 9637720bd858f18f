use Rattle.std.proofs.Common.{◌≡◌, ◌⊎◌, true, inl, inr, List, None, Ok, Err, get_or, sym, ap, subst, ◌∙◌, refl}
use Rattle.std.specs.Prelude.{Result}
use Rattle.orc_call.specs.declared.answer.Answer.TheVariants as answer
use Rattle.orc_rules.specs.Due.{is_decision_due}
use Rattle.orc_rules.specs.Verdicts.{verdict}
use Rattle.orc_rules.specs.declared.transaction.Transaction.{Transaction}
use Rattle.orc_state.specs.Commits.{CommitsCall}
use Rattle.orc_state.specs.States.{State}
use Rattle.orc_text.specs.declared.memory.Memory.{Memory}
use Rattle.orc_hub_parts.specs.Askers.{IsOpenAt}
use Rattle.orc_hub.specs.Decisions.{CommitsOne, GivesUp}
use Rattle.orc_hub.specs.declared.hub.Hub.{Hub}
use Rattle.orc_hub.proofs.Commits.{committed, given_up}
use Rattle.orc_hub.proofs.DecisionDue.{asks, named_there, open_there}
use Rattle.orc_hub_parts.proofs.Places.{at_there, of_there, read_there}
use Rattle.orc_hub.proofs.hub.Hub.commit.Goals as goal

pub write_decide-requires-clause-asks : goal.write_decide-requires-clause-asks
write_decide-requires-clause-asks g c =
    let hub = c.args.self.now in
    let it = c.index-as_slice-place.result in
    let is = subst (λ (l : List Transaction). it ≡ get_or l c.args.place it) c.as_slice.ensures c.index-as_slice-place.is in
    let read = read_there hub.active c.args.place it (λ one. is_decision_due hub.duties one ≡ true) is c.requires.preparing in
    let own = asks g.D.Disk.disk hub c.requires.hub c.requires.up c.args.place it read.0 read.1 in
    subst (λ (h : Hub g.row.D.Denot). IsOpenAt h.askers it.asker) (sym c.enter.ensures.rest) (open_there hub.askers it.asker it.call own)

pub abort-requires-clause-asks : goal.abort-requires-clause-asks
abort-requires-clause-asks g c =
    let hub = c.args.self.now in
    let it = c.index-as_slice-place.result in
    let is = subst (λ (l : List Transaction). it ≡ get_or l c.args.place it) c.as_slice.ensures c.index-as_slice-place.is in
    let read = read_there hub.active c.args.place it (λ one. is_decision_due hub.duties one ≡ true) is c.requires.preparing in
    let own = asks g.D.Disk.disk hub c.requires.hub c.requires.up c.args.place it read.0 read.1 in
    subst (λ (h : Hub g.row.D.Denot). IsOpenAt h.askers it.asker) (sym c.enter.ensures.rest) (open_there hub.askers it.asker it.call own)

pub abort-requires-in-Err-clause-asks : goal.abort-requires-in-Err-clause-asks
abort-requires-in-Err-clause-asks g c =
    let hub = c.args.self.now in
    let it = c.index-as_slice-place.result in
    let is = subst (λ (l : List Transaction). it ≡ get_or l c.args.place it) c.as_slice.ensures c.index-as_slice-place.is in
    let read = read_there hub.active c.args.place it (λ one. is_decision_due hub.duties one ≡ true) is c.requires.preparing in
    let own = asks g.D.Disk.disk hub c.requires.hub c.requires.up c.args.place it read.0 read.1 in
    subst (λ (h : Hub g.row.D.Denot). IsOpenAt h.askers it.asker) (sym c.enter.ensures.rest) (open_there hub.askers it.asker it.call own)

pub returns-in-Ok-Ok : goal.returns-in-Ok-Ok
returns-in-Ok-Ok g c =
    let hub = c.args.self.now in
    let it = c.index-as_slice-place.result in
    let is = subst (λ (l : List Transaction). it ≡ get_or l c.args.place it) c.as_slice.ensures c.index-as_slice-place.is in
    let read = read_there hub.active c.args.place it (λ one. is_decision_due hub.duties one ≡ true) is c.requires.preparing in
    let own = asks g.D.Disk.disk hub c.requires.hub c.requires.up c.args.place it read.0 read.1 in
    let prepared = of_there hub.active c.args.place it (λ one. verdict hub.duties one.t one.plan.held.devices ≡ None) read.0 c.requires.prepared in
    let commits = of_there hub.active c.args.place it (λ one. CommitsCall {E = Memory} hub.decls hub.state one.call (Ok c.in-Ok-Ok.field-0) c.enter.new.self.state) read.0 c.in-Ok-Ok.ensures.commits in
    let done = subst (λ r. CommitsCall {E = Memory} hub.decls hub.state it.call (Ok r) c.enter.new.self.state) c.in-Ok-Ok.field-0-is commits in
    at_there hub.active c.args.place it (λ one. CommitsOne g.D.Disk.disk hub one c.write_decide.result c.write_decide.new.self ⊎ GivesUp g.D.Disk.disk hub one c.write_decide.result c.write_decide.new.self) read.0
    (inl (committed g.D.Disk.disk hub it (named_there hub.askers it.asker it.call own) prepared c.enter.new.self.state c.in-Ok-Ok.number c.enter.new.self
    c.write_decide.result c.write_decide.new.self c.enter.ensures.rest done c.write_decide.ensures))

pub returns-in-Ok-Err : goal.returns-in-Ok-Err
returns-in-Ok-Err g c =
    let hub = c.args.self.now in
    let it = c.index-as_slice-place.result in
    let is = subst (λ (l : List Transaction). it ≡ get_or l c.args.place it) c.as_slice.ensures c.index-as_slice-place.is in
    let read = read_there hub.active c.args.place it (λ one. is_decision_due hub.duties one ≡ true) is c.requires.preparing in
    let own = asks g.D.Disk.disk hub c.requires.hub c.requires.up c.args.place it read.0 read.1 in
    let prepared = of_there hub.active c.args.place it (λ one. verdict hub.duties one.t one.plan.held.devices ≡ None) read.0 c.requires.prepared in
    let commits = of_there hub.active c.args.place it (λ one. CommitsCall {E = Memory} hub.decls hub.state one.call (Ok c.in-Ok-Err.field-0) c.enter.new.self.state) read.0 c.in-Ok-Err.ensures.commits in
    let done = subst (λ r. CommitsCall {E = Memory} hub.decls hub.state it.call (Ok r) c.enter.new.self.state) c.in-Ok-Err.field-0-is commits in
    at_there hub.active c.args.place it (λ one. CommitsOne g.D.Disk.disk hub one c.abort.result c.abort.new.self ⊎ GivesUp g.D.Disk.disk hub one c.abort.result c.abort.new.self) read.0
    (inr (given_up g.D.Disk.disk hub it (named_there hub.askers it.asker it.call own) c.in-Ok-Err.answer c.enter.new.self c.abort.result c.abort.new.self
    (c.enter.ensures.rest ∙ ap (λ (s : State). record hub { state = s }) done.1) (inr (prepared, inr done.0)) c.abort.ensures))

pub returns-in-Err : goal.returns-in-Err
returns-in-Err g c =
    let hub = c.args.self.now in
    let it = c.index-as_slice-place.result in
    let is = subst (λ (l : List Transaction). it ≡ get_or l c.args.place it) c.as_slice.ensures c.index-as_slice-place.is in
    let read = read_there hub.active c.args.place it (λ one. is_decision_due hub.duties one ≡ true) is c.requires.preparing in
    let own = asks g.D.Disk.disk hub c.requires.hub c.requires.up c.args.place it read.0 read.1 in
    let prepared = of_there hub.active c.args.place it (λ one. verdict hub.duties one.t one.plan.held.devices ≡ None) read.0 c.requires.prepared in
    let done = of_there hub.active c.args.place it (λ one. CommitsCall {E = Memory} hub.decls hub.state one.call (Err c.in-Err.field-0) c.enter.new.self.state) read.0 c.in-Err.ensures.commits in
    at_there hub.active c.args.place it (λ one. CommitsOne g.D.Disk.disk hub one c.abort-in-Err.result c.abort-in-Err.new.self ⊎ GivesUp g.D.Disk.disk hub one c.abort-in-Err.result c.abort-in-Err.new.self) read.0
    (inr (given_up g.D.Disk.disk hub it (named_there hub.askers it.asker it.call own) answer.Memory c.enter.new.self c.abort-in-Err.result c.abort-in-Err.new.self
    (c.enter.ensures.rest ∙ ap (λ (s : State). record hub { state = s }) done) (inr (prepared, inl refl)) c.abort-in-Err.ensures))
