use Rattle.std.proofs.Common.{◌≡◌, true, List, ap, sym, subst, ◌∙◌}
use Rattle.std.specs.List.{list_all}
use Rattle.orc_tree.specs.Changes.{applied, change_fits}
use Rattle.orc_tree.specs.declared.change.Change.{Change}
use Rattle.orc_tree.proofs.change.apply_to.Goals as goal

pub applied_to-requires : goal.applied_to-requires
applied_to-requires c = record { fits = subst (λ (l : List Change). list_all change_fits l ≡ true) (sym c.as_slice.ensures) c.requires.fits }

pub returns-clause-ok : goal.returns-clause-ok
returns-clause-ok c = c.in_ok-new.ensures.applied ∙ ap (λ (l : List Change). applied l c.args.tree.now) c.as_slice.ensures
