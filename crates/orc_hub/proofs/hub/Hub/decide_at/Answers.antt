use Rattle.std.proofs.Common.{◌≡◌, ◌⊎◌, true, inl, inr, List, None, get_or, sym, subst, ◌∙◌, refl}
use Rattle.orc_rules.specs.Due.{is_decision_due, is_entry_due}
use Rattle.orc_rules.specs.Verdicts.{verdict}
use Rattle.orc_rules.specs.declared.transaction.Transaction.{Transaction}
use Rattle.orc_hub.specs.Decisions.{CommitsOne, DecidesOn, GivesUp}
use Rattle.orc_hub.proofs.Commits.{decision_due, given_up}
use Rattle.orc_hub.proofs.DecisionDue.{asks, named_there, open_there}
use Rattle.orc_hub_parts.proofs.Places.{at_there, of_there, read_there}
use Rattle.orc_hub.proofs.hub.Hub.decide_at.Goals as goal

pub abort-requires-clause-asks : goal.abort-requires-clause-asks
abort-requires-clause-asks g c =
    let hub = c.args.self.now in
    let it = c.index-as_slice-place.result in
    let is = subst (λ (l : List Transaction). it ≡ get_or l c.args.place it) c.as_slice.ensures c.index-as_slice-place.is in
    let read = read_there hub.active c.args.place it (λ one. is_entry_due hub.duties one ≡ true) is c.requires.due in
    let due = decision_due hub.duties it (sym c.is_settling.ensures ∙ c.if-is_settling.false) read.1 in
    open_there hub.askers it.asker it.call (asks g.D.Disk.disk hub c.requires.hub c.requires.up c.args.place it read.0 due)

pub commit-requires-clause-preparing : goal.commit-requires-clause-preparing
commit-requires-clause-preparing g c =
    let hub = c.args.self.now in
    let it = c.index-as_slice-place.result in
    let is = subst (λ (l : List Transaction). it ≡ get_or l c.args.place it) c.as_slice.ensures c.index-as_slice-place.is in
    let read = read_there hub.active c.args.place it (λ one. is_entry_due hub.duties one ≡ true) is c.requires.due in
    let due = decision_due hub.duties it (sym c.is_settling.ensures ∙ c.if-is_settling.false) read.1 in
    at_there hub.active c.args.place it (λ one. is_decision_due hub.duties one ≡ true) read.0 due

pub commit-requires-clause-prepared : goal.commit-requires-clause-prepared
commit-requires-clause-prepared g c =
    let hub = c.args.self.now in
    let it = c.index-as_slice-place.result in
    let is = subst (λ (l : List Transaction). it ≡ get_or l c.args.place it) c.as_slice.ensures c.index-as_slice-place.is in
    let read = read_there hub.active c.args.place it (λ one. is_entry_due hub.duties one ≡ true) is c.requires.due in
    let due = decision_due hub.duties it (sym c.is_settling.ensures ∙ c.if-is_settling.false) read.1 in
    at_there hub.active c.args.place it (λ one. verdict hub.duties one.t one.plan.held.devices ≡ None) read.0
    (sym (c.verdict.ensures ∙ (λ i. verdict (c.as_slice-2.ensures i) it.t (c.as_slice-3.ensures i))) ∙ c.in-None.is)

pub returns-in-Some : goal.returns-in-Some
returns-in-Some g c =
    let hub = c.args.self.now in
    let it = c.index-as_slice-place.result in
    let is = subst (λ (l : List Transaction). it ≡ get_or l c.args.place it) c.as_slice.ensures c.index-as_slice-place.is in
    let read = read_there hub.active c.args.place it (λ one. is_entry_due hub.duties one ≡ true) is c.requires.due in
    let due = decision_due hub.duties it (sym c.is_settling.ensures ∙ c.if-is_settling.false) read.1 in
    let own = asks g.D.Disk.disk hub c.requires.hub c.requires.up c.args.place it read.0 due in
    at_there hub.active c.args.place it (λ one. DecidesOn g.D.Disk.disk hub one c.abort.result c.abort.new.self) read.0
    (inr (
      due,
      inr (given_up g.D.Disk.disk hub it (named_there hub.askers it.asker it.call own) c.in-Some.answer hub c.abort.result c.abort.new.self refl
          (inl (sym (c.verdict.ensures ∙ (λ i. verdict (c.as_slice-2.ensures i) it.t (c.as_slice-3.ensures i))) ∙ c.in-Some.is)) c.abort.ensures),
    ))

pub returns-in-None : goal.returns-in-None
returns-in-None g c =
    let hub = c.args.self.now in
    let it = c.index-as_slice-place.result in
    let is = subst (λ (l : List Transaction). it ≡ get_or l c.args.place it) c.as_slice.ensures c.index-as_slice-place.is in
    let read = read_there hub.active c.args.place it (λ one. is_entry_due hub.duties one ≡ true) is c.requires.due in
    let due = decision_due hub.duties it (sym c.is_settling.ensures ∙ c.if-is_settling.false) read.1 in
    let so = of_there hub.active c.args.place it (λ one. CommitsOne g.D.Disk.disk hub one c.commit.result c.commit.new.self ⊎ GivesUp g.D.Disk.disk hub one c.commit.result c.commit.new.self) read.0 c.commit.ensures in
    at_there hub.active c.args.place it (λ one. DecidesOn g.D.Disk.disk hub one c.commit.result c.commit.new.self) read.0 (inr (due, so))
