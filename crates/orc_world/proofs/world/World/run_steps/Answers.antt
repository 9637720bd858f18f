use Rattle.std.proofs.Common.{[], ◌∷◌, ◌++◌, ◌+◌, List, ap, append_assoc, drop, subst, sym, take, ◌∙◌}
use Rattle.std.specs.Prelude.{Some}
use Rattle.std.proofs.lemmas.List.{take-append-drop, take_all, take_more}
use Rattle.std.proofs.lemmas.Option.{slice_get-get_or}
use Rattle.orc_script.specs.declared.step.ScriptStep.{ScriptStep}
use Rattle.orc_world.proofs.LinesDone.{ScriptSoFar, allowed_at, script_ended, script_first, script_more, script_whole}
use Rattle.orc_world.proofs.world.World.run_steps.Goals as goal

pub loop-step-init : goal.loop-step-init
loop-step-init g c = script_first g.D.Disk.disk c.args.steps.now c.args.self.now.scene c.args.out.now c.requires.sound

pub run_step-requires-clause-sound : goal.run_step-requires-clause-sound
run_step-requires-clause-sound g c = c.loop-step.invariant.takes

pub run_step-requires-clause-allowed : goal.run_step-requires-clause-allowed
run_step-requires-clause-allowed g c =
    allowed_at c.args.self.now.scene c.loop-step.self.scene c.args.steps.now c.loop-step.step-index c.step-item.result c.requires.allowed c.loop-step.invariant.decls
    (slice_get-get_or c.args.steps.now c.loop-step.step-index c.step-item.result c.loop-step-test.true ∙ ap (λ (x : ScriptStep). Some x) (sym c.step-item.is))

pub loop-step-preserved : goal.loop-step-preserved
loop-step-preserved g c =
    let steps = c.args.steps.now in
    let i = c.loop-step.step-index in
    let one = c.step-item.result in
    subst (λ (script : List ScriptStep). ScriptSoFar g.D.Disk.disk steps script c.args.self.now.scene c.args.out.now c.run_step.new.self.scene c.run_step.new.out)
    (sym (take_more steps i one c.loop-step-test.true ∙ ap (λ (x : ScriptStep). take i steps ++ x ∷ []) (sym c.step-item.is)))
    (script_more g.D.Disk.disk steps c.args.self.now.scene c.args.out.now (take i steps) one i
    (slice_get-get_or steps i one c.loop-step-test.true ∙ ap (λ (x : ScriptStep). Some x) (sym c.step-item.is))
    c.loop-step.self.scene c.run_step.new.self.scene c.loop-step.out c.run_step.new.out c.loop-step.invariant c.in-Ok.ensures.line c.in-Ok.ensures.after)

pub returns-in-Err-clause-script : goal.returns-in-Err-clause-script
returns-in-Err-clause-script g c =
    let steps = c.args.steps.now in
    let i = c.loop-step.step-index in
    let one = c.step-item.result in
    script_ended g.D.Disk.disk steps c.args.self.now.scene c.args.out.now (take i steps) one i
    (slice_get-get_or steps i one c.loop-step-test.true ∙ ap (λ (x : ScriptStep). Some x) (sym c.step-item.is))
    c.loop-step.self.scene c.run_step.new.self.scene c.loop-step.out c.run_step.new.out c.loop-step.invariant c.in-Err.stop (drop (i + 1) steps)
    (sym (take-append-drop (i + 1) steps)
    ∙ ap (λ (l : List ScriptStep). l ++ drop (i + 1) steps) (take_more steps i one c.loop-step-test.true ∙ ap (λ (x : ScriptStep). take i steps ++ x ∷ []) (sym c.step-item.is))
    ∙ append_assoc (take i steps) (one ∷ []) (drop (i + 1) steps))
    c.in-Err.ensures.line

pub returns-in-Err-clause-after : goal.returns-in-Err-clause-after
returns-in-Err-clause-after g c = tt

pub returns-clause-script : goal.returns-clause-script
returns-clause-script g c =
    script_whole g.D.Disk.disk c.args.steps.now c.args.self.now.scene c.args.out.now c.loop-step.self.scene c.loop-step.out
    (subst (λ (script : List ScriptStep). ScriptSoFar g.D.Disk.disk c.args.steps.now script c.args.self.now.scene c.args.out.now c.loop-step.self.scene c.loop-step.out)
    (take_all c.loop-step.step-index c.args.steps.now c.loop-step-test.false) c.loop-step.invariant)

pub returns-clause-after : goal.returns-clause-after
returns-clause-after g c = (c.loop-step.invariant.takes, c.loop-step.invariant.decls)
