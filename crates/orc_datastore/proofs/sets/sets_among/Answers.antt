use Rattle.std.proofs.Common.{rules, ◌≡◌, ℕ, ◌+◌, ◌<◌, length, ap, ◌∙◌, sym, subst, List, Bool}
use Rattle.std.specs.declared.result.Result.TheVariants.{Err}
use Rattle.orc_tree.specs.declared.change.ChangeSet.{ChangeSet}
use Rattle.orc_datastore.specs.Touched.{is_touched_among}
use Rattle.orc_datastore.specs.inside.Marks.{is_marked}
use Rattle.orc_datastore.proofs.Changing.{Course}
use Rattle.orc_datastore.proofs.Previews.{AreSetsTo, all-sets, clash-there, no-set, no-sets, one-set}
use Rattle.orc_datastore.proofs.sets.sets_among.Goals as goal
use Rattle.orc_datastore.proofs.sets.sets_among.Goals.{then-is_marked+in_ok-set+in-Ok+in_ok-push-in-Ok, else-is_marked}

pub loop-device-init : goal.loop-device-init
loop-device-init c = no-sets c.args.decls.now.names c.args.actions.now c.args.state.now _ c.new-sets.ensures

pub returns-in-Err : goal.returns-in-Err
returns-in-Err c =
    let lt : c.loop-device.device < length c.args.decls.now.names = search rules in
    let is : c.in_ok-set.field-0 ≡ Err c.in-Err.answer = search rules in
    clash-there c.args.decls.now.names c.args.actions.now c.args.state.now c.loop-device.sets c.loop-device.device c.in_ok-set.field-0 c.in-Err.answer
    c.loop-device.invariant lt c.in_ok-set.ensures is

pub loop-device-preserved : goal.loop-device-preserved
loop-device-preserved c =
    let lt : c.loop-device.device < length c.args.decls.now.names = search rules in
    let course : Course c.args.state.now c.args.decls.now.names c.args.actions.now c.state.inside.live c.state.inside.stores =
    record { first = c.state.inside.data; view = c.state.view_is; kept = c.state.invariant.0; bases = c.requires.bases; once = c.requires.once } in
    let test : c.is_marked.result ≡ is_touched_among c.args.decls.now.names c.args.state.now c.args.actions.now c.loop-device.device =
    c.is_marked.ensures ∙ ap (λ (l : List Bool). is_marked l c.loop-device.device) c.as_slice.ensures.value ∙ c.in_ok-marks.ensures.each c.loop-device.device lt in
    elim c.if-is_marked.branch [
      | then-is_marked+in_ok-set+in-Ok+in_ok-push-in-Ok w ↦
          one-set c.args.decls.now.names c.args.actions.now c.args.state.now c.loop-device.sets c.if-is_marked.sets c.loop-device.device c.is_marked.result
          w.in_ok-set.field-0 w.in-Ok.set c.loop-device.invariant test w.if-is_marked.true w.in_ok-set.ensures w.in-Ok.is (w.sets-is ∙ w.in_ok-push-in-Ok.ensures.ok)
      | else-is_marked w ↦
          subst (λ (l : List (ℕ × ChangeSet)). AreSetsTo c.args.decls.now.names c.args.actions.now c.args.state.now l (c.loop-device.device + 1)) (sym w.sets-is)
          (no-set c.args.decls.now.names c.args.actions.now c.args.state.now c.loop-device.sets c.loop-device.device c.is_marked.result c.state.inside.live
          c.state.inside.stores course c.names_differ.ensures c.loop-device.invariant test w.if-is_marked.false lt)
    ]

pub returns : goal.returns
returns c =
    let done : c.loop-device.device ≡ length c.args.decls.now.names = search rules in
    all-sets c.args.decls.now.names c.args.actions.now c.args.state.now c.loop-device.sets c.loop-device.device c.loop-device.invariant done
