use Rattle.std.proofs.Common.{◌≡◌, true, List, get_or, sym, subst}
use Rattle.orc_call.specs.declared.call.Call.{Call}
use Rattle.orc_rules.specs.Due.{is_decision_due}
use Rattle.orc_rules.specs.declared.transaction.Transaction.{Transaction}
use Rattle.orc_state.specs.Checks.{CanCommit}
use Rattle.orc_state.specs.Commits.{CommitsCall}
use Rattle.orc_hub.proofs.DecisionDue.{ready}
use Rattle.orc_hub_parts.proofs.Places.{at_there, read_there}
use Rattle.orc_hub.proofs.hub.Hub.enter.Goals as goal

pub commit-requires-clause-ready : goal.commit-requires-clause-ready
commit-requires-clause-ready g c =
    let hub = c.args.self.now in
    let it = c.index-as_slice-place.result in
    let is = subst (λ (l : List Transaction). it ≡ get_or l c.args.place it) c.as_slice.ensures c.index-as_slice-place.is in
    let read = read_there hub.active c.args.place it (λ one. is_decision_due hub.duties one ≡ true) is c.requires.preparing in
    subst (λ (x : Call). CanCommit hub.decls hub.state.history x it.plan) (sym c.in_ok-call.ensures)
    (ready g.D.Disk.disk hub c.requires.hub c.requires.up c.args.place it read.0 read.1 c.unclashed_stands.ensures c.plan_stands.ensures)

pub returns-clause-commits : goal.returns-clause-commits
returns-clause-commits g c =
    let hub = c.args.self.now in
    let it = c.index-as_slice-place.result in
    let is = subst (λ (l : List Transaction). it ≡ get_or l c.args.place it) c.as_slice.ensures c.index-as_slice-place.is in
    let read = read_there hub.active c.args.place it (λ one. is_decision_due hub.duties one ≡ true) is c.requires.preparing in
    at_there hub.active c.args.place it _ read.0
    (subst (λ (x : Call). CommitsCall hub.decls hub.state x c.commit.result c.commit.new.self) c.in_ok-call.ensures c.commit.ensures)
