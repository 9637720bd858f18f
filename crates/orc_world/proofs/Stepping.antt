-- A line `step`, and what is so where no operation is due.
use Rattle.std.proofs.Common.{[], ◌≡◌, ◌<◌, ◌≤◌, ◌⊎◌, ℕ, Bool, List, ◌∷◌, ◌++◌, refl, sym, ap, ◌∙◌, append-nil}
use Rattle.orc_rules.specs.Events.{Turn}
use Rattle.orc_rules.specs.Worlds.{Setting, World as Seen}
use Rattle.orc_runs.specs.Laws.{RunsAreCarried}
use Rattle.orc_runs.specs.Scripts.{Part, Part as part, Shows}
use Rattle.orc_script.specs.declared.step.ScriptStep.TheVariants as step
use Rattle.orc_scene.specs.Courses.{DoesParts, EndsAtOnce, MayDoOperation, told_in}
use Rattle.orc_world.specs.Lines.{DoesLine, EndsInLine}
use Rattle.orc_scene.specs.Stands.{IsSeenAs, IsNotReconciling}
use Rattle.orc_scene.specs.declared.stop.WorldStop.{WorldStop}
use Rattle.orc_scene.specs.declared.scene.Scene.{Scene}
use Rattle.orc_scene.proofs.Apiece.{once_ends}
use Rattle.orc_world.proofs.Apiece.{operation_does}
use Rattle.orc_world.proofs.Lining.{ends_line, parts_line}
use Rattle.orc_world.proofs.Resting.{unmended_behind}

module _ {D : Type 0} (here : Setting D) where
  step_shows : (device : ℕ) (turns : List (Turn D)) (world : Seen D) → Shows here.decls (step.Step device) turns world []
  step_shows device [] world = refl
  step_shows device (turn ∷ turns) world = refl

  -- the line is done
  pub step_line : RunsAreCarried here → (seen : Seen D) (old new : Scene D) (device : ℕ) (before : List ℕ) → IsSeenAs here seen old → IsNotReconciling old.place
      → (came : Bool) → MayDoOperation here seen old new [] [] device came → DoesLine here (step.Step device) seen old new before before
  step_line law seen old new device before is unmended came may =
      let row : List Part = part.Operation device ∷ part.Hearing device ∷ [] in
      let does = (operation_does here seen old new device came may).does in
      let told : told_in here.decls does.turns ≡ [] = sym does.prints in
      let printed : DoesParts here seen old new before before row = record {
        turns = does.turns;
        next = does.next;
        goes = does.goes;
        through = does.through;
        prints = sym (append-nil before) ∙ ap (λ (text : List ℕ). before ++ text) (sym told);
      } in
      parts_line here (step.Step device) seen old new before before row refl refl (λ wrong. absurd cc) (λ other. refl) printed
      (step_shows device does.turns does.next)
      (unmended_behind here law old new seen does.next row does.turns is unmended does.goes (refl, (refl, tt)) does.through.is)

  -- the run ended in it
  pub step_ends : (seen : Seen D) (old new : Scene D) (device : ℕ) (before : List ℕ) (why : WorldStop) → EndsAtOnce here seen old new [] [] why
      → EndsInLine here (step.Step device) seen old new before before why
  step_ends seen old new device before why ends =
      let row : List Part = part.Operation device ∷ part.Hearing device ∷ [] in
      ends_line here (step.Step device) seen old new before before row refl refl (λ wrong. absurd cc) why
      (once_ends here seen old new before before row why (record { memory = ends.memory; disk = ends.disk; events = ends.events; printed = refl }))
