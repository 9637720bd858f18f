use Rattle.std.proofs.Common.{List, map, sym, ap, subst, ◌∙◌}
use Rattle.orc_path.specs.Configurations.{Config}
use Rattle.orc_expr.specs.declared.read.Target.{Target}
use Rattle.orc_tree.specs.Changes.{applied}
use Rattle.orc_tree.specs.declared.change.Change.{Change}
use Rattle.orc_revalidate.specs.Changes.{DiffersInside}
use Rattle.orc_node.specs.inside.Changed.{target_of}
use Rattle.orc_node.proofs.Changes.{differs_inside}
use Rattle.orc_node.proofs.judging.judged.Goals as goal

pub judged_inside-requires-clause-changed : goal.judged_inside-requires-clause-changed
judged_inside-requires-clause-changed c =
    subst (λ (new : Config). DiffersInside c.as_slice-in-Ok.result.now c.args.old.now new) (sym c.requires.made)
    (subst (λ (targets : List Target). DiffersInside targets c.args.old.now (applied c.args.set.now.changes c.args.old.now))
    (sym (c.as_slice-in-Ok.ensures ∙ c.in-Ok.ensures ∙ ap (λ (changes : List Change). map target_of changes) c.as_slice.ensures))
    (differs_inside c.args.set.now.changes c.args.old.now))
