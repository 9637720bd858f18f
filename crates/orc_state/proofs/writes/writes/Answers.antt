use Rattle.std.proofs.Common.{◌++◌, List, map, sym, ap, subst, ◌∙◌}
use Rattle.orc_path.specs.Steps.{PathStep}
use Rattle.orc_path.specs.Configurations.{Config}
use Rattle.orc_path.specs.declared.item.Write.{Write}
use Rattle.orc_path.specs.declared.item.Write.TheVariants as write
use Rattle.orc_queue.specs.declared.held.Held.{Held}
use Rattle.orc_revalidate.specs.Changes.{ArePathsChanged}
use Rattle.orc_state.proofs.Writing.{are_writes, plan_inside}
use Rattle.orc_state.proofs.writes.writes.Goals as goal

pub changed_paths-requires : goal.changed_paths-requires
changed_paths-requires c = record {
  changed =
      plan_inside c.args.decls.now c.args.state.now c.args.call.now c.args.plan.now.held c.data.result.now c.args.next.now c.as_slice.result.now c.requires.call
      c.requires.held c.data.ensures c.requires.behind c.as_slice.ensures;
}

pub returns : goal.returns
returns c =
    are_writes c.args.state.now c.args.call.now c.in_ok-paths.paths c.as_slice-3.result.now
    (subst (λ (n : Config). ArePathsChanged c.args.state.now.data n c.in_ok-paths.paths) c.requires.behind
    (subst (λ (o : Config). ArePathsChanged o c.args.next.now c.in_ok-paths.paths) c.data.ensures c.in_ok-paths.ensures))
    (c.as_slice-3.ensures ∙ ap (λ (h : Held). h.services) (sym c.requires.held))
    c.push_services.new.row
    (c.in_ok-push_services.ensures
    ∙ ap (λ (l : List Write). l ++ map write.Service c.as_slice-3.result.now)
    (c.in_ok-row.ensures ∙ ap (λ (l : List (List PathStep)). map write.At l) c.as_slice-2.ensures))
