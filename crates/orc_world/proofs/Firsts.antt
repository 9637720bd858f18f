-- The calls for snapshots and submissions, whatever the rules see.
use Rattle.std.proofs.Common.{[], ◌≡◌, ◌≤◌, ◌⊎◌, inl, inr, ℕ, false, None, List, ◌∷◌, ◌++◌, refl, sym, subst, ◌∙◌}
use Rattle.std.specs.Prelude.{Result, Ok, Err, is_some}
use Rattle.std.proofs.lemmas.Bool.{false≢true}
use Rattle.std.proofs.lemmas.Option.{none-some}
use Rattle.orc_call.specs.declared.call.Call.{Call}
use Rattle.orc_datastore.specs.Snapshots.{Snapshot}
use Rattle.orc_decls.specs.declared.declarations.Decls.{Decls}
use Rattle.orc_disk.specs.Meanings.{DiskMeaning}
use Rattle.orc_rules.specs.Events.{DoesAnyway, Turn}
use Rattle.orc_rules.specs.Worlds.{Setting, World as Seen}
use Rattle.orc_rules.specs.declared.event.Event.{Event}
use Rattle.orc_runs.specs.Scripts.{IsOf, NoneOf, Part as part, Shows}
use Rattle.orc_script.specs.declared.step.ScriptStep.TheVariants as step
use Rattle.orc_scene.specs.Effects.{hub_in}
use Rattle.orc_scene.specs.Courses.{RowOrEnd, TurnOrEnd}
use Rattle.orc_scene.specs.Laws.{SceneIsCarried}
use Rattle.orc_world.specs.Lines.{IsLineCall}
use Rattle.orc_scene.specs.Stands.{IsBetweenLines, run_setting}
use Rattle.orc_scene.specs.declared.stop.WorldStop.{WorldStop}
use Rattle.orc_scene.specs.declared.scene.Scene.{Scene}
use Rattle.orc_scene.proofs.Lasted.{done, ended}
use Rattle.orc_world.proofs.Lasted.{between_parts}
use Rattle.orc_scene.proofs.Rowing.{none_up}
use Rattle.orc_world.proofs.Rowing.{printing_row, row_ended, row_then, turn_row}
use Rattle.orc_world.proofs.Turning.{row_line, row_line_ended}
use Rattle.orc_scene.proofs.Firsts.{none_parts}

-- lines

begin_shows : {D : Type 0} (caller : List ℕ) (decls : Decls) (turns : List (Turn D)) (world : Seen D) → Shows decls (step.Begin caller) turns world []
begin_shows caller decls [] world = refl
begin_shows caller decls (turn ∷ turns) world = refl

call_shows : {D : Type 0} (call : Call) (decls : Decls) (turns : List (Turn D)) (world : Seen D) → Shows decls (step.Call call) turns world []
call_shows call decls [] world = refl
call_shows call decls (turn ∷ turns) world = refl

any_begins : {D : Type 0} (caller : List ℕ) (seen : Seen D) (one : Event) (next : Seen D) → IsOf (part.Snapshot caller) one → DoesAnyway seen one next → ⊥
any_begins caller seen one next of (DoesAnyway.ticks seconds) = of
any_begins caller seen one next of (DoesAnyway.restarts device) = of
any_begins caller seen one next of (DoesAnyway.answers_down call front down) = of

none_begins : {D : Type 0} (here : Setting D) (seen : Seen D) (caller : List ℕ) → seen.hub ≡ None → NoneOf here seen (part.Snapshot caller)
none_begins here seen caller down one of (inl (hub, row, next, up, does)) = none-some hub (sym down ∙ up)
none_begins here seen caller down one of (inr (inl (next, does))) = any_begins caller seen one next of does
none_begins here seen caller down one of (inr (inr (recovers, none))) = subst (λ (e : Event). IsOf (part.Snapshot caller) e) recovers of

module _ {D : Type 0} (disk : DiskMeaning D) (law : SceneIsCarried disk) (old : Scene D) (before : List ℕ) where
  module _ (caller : List ℕ) where
    pub begin_down : IsBetweenLines disk old → is_some (hub_in old.place) ≡ false → IsLineCall disk (step.Begin caller) old (done tt) old before before
    begin_down between down =
        row_line disk law (step.Begin caller) (λ here. part.Snapshot caller ∷ []) (λ here. refl) (λ seen. refl) (λ wrong. absurd cc) (λ device. refl) (begin_shows caller) (λ here. (refl, tt)) old old before before between
        (λ decls granted seen is. none_parts (run_setting disk decls old.limit granted) seen old before (part.Snapshot caller) is
        (none_begins (run_setting disk decls old.limit granted) seen caller (none_up (run_setting disk decls old.limit granted) seen old.place is.place down)))

    -- the line `begin`
    pub begin_line : (new : Scene D) → IsBetweenLines disk old → (result : Result (Unit {0}) WorldStop) → TurnOrEnd disk (part.Snapshot caller) old result new [] []
        → IsLineCall disk (step.Begin caller) old result new before before
    begin_line new between (Ok value) each =
        row_line disk law (step.Begin caller) (λ here. part.Snapshot caller ∷ []) (λ here. refl) (λ seen. refl) (λ wrong. absurd cc) (λ device. refl) (begin_shows caller) (λ here. (refl, tt)) old new before before between
        (printing_row disk (λ here. part.Snapshot caller ∷ []) old new before (done tt) (turn_row disk (part.Snapshot caller) refl old new [] [] (done tt) each))
    begin_line new between (Err why) each =
        row_line_ended disk law (step.Begin caller) (λ here. part.Snapshot caller ∷ []) (λ here. refl) (λ seen. refl) (λ wrong. absurd cc) (λ device. refl) (begin_shows caller) (λ here. (refl, tt)) old new before before why
        (printing_row disk (λ here. part.Snapshot caller ∷ []) old new before (ended why) (turn_row disk (part.Snapshot caller) refl old new [] [] (ended why) each))

  module _ (call : Call) where
    -- the line of a call
    pub call_line : (middle new : Scene D) (after : List ℕ) → IsBetweenLines disk old → RowOrEnd disk (λ here. part.FirstSnapshot call.caller ∷ []) old (done tt) middle [] []
        → (result : Result (Unit {0}) WorldStop) → TurnOrEnd disk (part.Submission call) middle result new before after → IsLineCall disk (step.Call call) old result new before after
    call_line middle new after between first (Ok value) each =
        row_line disk law (step.Call call) (λ here. part.FirstSnapshot call.caller ∷ part.Submission call ∷ []) (λ here. refl) (λ seen. refl) (λ wrong. absurd cc) (λ device. refl) (call_shows call)
        (λ here. (refl, (refl, tt))) old new before after between
        (row_then disk (λ here. part.FirstSnapshot call.caller ∷ []) (λ here. part.Submission call ∷ []) old middle new before before after (done tt)
        (printing_row disk (λ here. part.FirstSnapshot call.caller ∷ []) old middle before (done tt) first) (turn_row disk (part.Submission call) refl middle new before after (done tt) each))
    call_line middle new after between first (Err why) each =
        row_line_ended disk law (step.Call call) (λ here. part.FirstSnapshot call.caller ∷ part.Submission call ∷ []) (λ here. refl) (λ seen. refl) (λ wrong. absurd cc) (λ device. refl) (call_shows call)
        (λ here. (refl, (refl, tt))) old new before after why
        (row_then disk (λ here. part.FirstSnapshot call.caller ∷ []) (λ here. part.Submission call ∷ []) old middle new before before after (ended why)
        (printing_row disk (λ here. part.FirstSnapshot call.caller ∷ []) old middle before (done tt) first) (turn_row disk (part.Submission call) refl middle new before after (ended why) each))

    pub call_line_ended : (new : Scene D) (why : WorldStop) → RowOrEnd disk (λ here. part.FirstSnapshot call.caller ∷ []) old (ended why) new [] []
        → IsLineCall disk (step.Call call) old (ended why) new before before
    call_line_ended new why first =
        row_line_ended disk law (step.Call call) (λ here. part.FirstSnapshot call.caller ∷ part.Submission call ∷ []) (λ here. refl) (λ seen. refl) (λ wrong. absurd cc) (λ device. refl) (call_shows call)
        (λ here. (refl, (refl, tt))) old new before before why
        (row_ended disk (λ here. part.FirstSnapshot call.caller ∷ []) (λ here. part.Submission call ∷ []) old new before before why
        (printing_row disk (λ here. part.FirstSnapshot call.caller ∷ []) old new before (ended why) first))

-- the world is between lines still
pub first_between : {D : Type 0} (disk : DiskMeaning D) → SceneIsCarried disk → (old new : Scene D) (caller : List ℕ) → IsBetweenLines disk old
    → RowOrEnd disk (λ here. part.FirstSnapshot caller ∷ []) old (done tt) new [] [] → IsBetweenLines disk new
first_between disk law old new caller between each = between_parts disk law old new [] [] (λ here. part.FirstSnapshot caller ∷ []) (λ here. (refl, tt)) between each
