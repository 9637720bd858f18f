use Rattle.std.proofs.Common.{sym, ap, subst, ◌∙◌}
use Rattle.orc_datastore.specs.Snapshots.{KnowsLiving}
use Rattle.orc_datastore.specs.States.{Datastore}
use Rattle.orc_datastore.proofs.datastore.Datastore.snapshot.Goals as goal

pub returns-clause-state : goal.returns-clause-state
returns-clause-state c = record {
  same_data = c.in_ok-copy.ensures.equal ∙ ap (λ (s : Datastore). s.data) c.self.view_is;
  living =
      subst (KnowsLiving c.args.self.now.live) (sym c.in_ok-copy-2.ensures.equal)
      (subst (λ (s : Datastore). KnowsLiving s.live c.self.inside.known) c.self.view_is c.self.invariant.1);
}
