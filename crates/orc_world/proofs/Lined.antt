-- The lines of rounds and of a reconciliation.
use Rattle.std.proofs.Common.{[], ◌≡◌, inl, inr, ℕ, Bool, true, false, Option, Some, None, List, ◌∷◌, ◌++◌, codes, map, refl, sym, ap, subst, ◌∙◌, append-nil}
use Rattle.std.specs.Prelude.{Result, Ok, Err, IfOk, MatchResult, OnOk, is_some}
use Rattle.std.specs.Global.{Vec}
use Rattle.std.proofs.lemmas.Bool.{false≢true}
use Rattle.std.proofs.lemmas.Option.{none-some}
use Rattle.orc_decls.specs.declared.declarations.Decls.{Decls}
use Rattle.orc_disk.specs.Meanings.{DiskMeaning}
use Rattle.orc_links.specs.Logs.{noted_on}
use Rattle.orc_rules.specs.Events.{DoesAnyway, Turn}
use Rattle.orc_rules.specs.Hubs.{Hub as HubState}
use Rattle.orc_rules.specs.Worlds.{Setting, World as Seen, declared}
use Rattle.orc_rules.specs.declared.event.Event.{Event}
use Rattle.orc_runs.specs.Scripts.{Goes, IsOf, IsStill, NoneOf, Part, Part as part, Shows, idle_words}
use Rattle.orc_script.specs.declared.step.ScriptStep.TheVariants as step
use Rattle.orc_text.specs.declared.memory.Memory.{Memory}
use Rattle.orc_scene.specs.Effects.{PrintsText, hub_in}
use Rattle.orc_scene.specs.Courses.{DoesParts, RowOrEnd}
use Rattle.orc_world.specs.inside.Rows.{SettlesRounds}
use Rattle.orc_world.specs.Lines.{DoesLine, EndsInLine, IsLineCall}
use Rattle.orc_scene.specs.Stands.{IsPlaceSeenAs, IsSeenAs, IsNotReconciling, run_setting}
use Rattle.orc_scene.specs.declared.stop.WorldStop.{WorldStop}
use Rattle.orc_scene.specs.declared.scene.Place.{Place}
use Rattle.orc_scene.specs.declared.scene.Place.TheVariants.{Up, Down, Ended, Moved}
use Rattle.orc_scene.specs.declared.scene.Scene.{Scene}
use Rattle.orc_scene.proofs.Apiece.{any_none, hearing_of_device, operation_of_device}
use Rattle.orc_world.proofs.Joining.{goes_nothing}
use Rattle.orc_scene.proofs.Lasted.{done, ended}
use Rattle.orc_world.proofs.Lining.{ends_line, parts_line}
use Rattle.orc_scene.proofs.Rowing.{none_up}
use Rattle.orc_world.proofs.Rowing.{mends_nothing, row_ended, row_then}
use Rattle.orc_world.proofs.Showings.{said_line}
use Rattle.orc_world.proofs.Times.{unended}

-- a `settle` shows nothing
settle_shows : {D : Type 0} (decls : Decls) (turns : List (Turn D)) (world : Seen D) → Shows decls step.Settle turns world []
settle_shows decls [] world = refl
settle_shows decls (turn ∷ turns) world = refl

-- the line `settle` is rounds
pub settle_line : {D : Type 0} (disk : DiskMeaning D) (old new : Scene D) (before after : List ℕ) (result : Result (Unit {0}) WorldStop)
    → SettlesRounds disk old result new before after → OnOk result (IsNotReconciling new.place) → IsLineCall disk step.Settle old result new before after
settle_line disk old new before after (Ok value) settles unmended = λ decls granted seen is may.
    (let does = settles decls granted seen is in
    parts_line (run_setting disk decls old.limit granted) step.Settle seen old new before after (part.Rounds ∷ []) refl refl (λ wrong. absurd cc) (λ device. refl)
    does.0 (settle_shows decls does.0.turns does.0.next) unmended)
settle_line disk old new before after (Err why) settles unmended = λ decls granted seen is may.
    ends_line (run_setting disk decls old.limit granted) step.Settle seen old new before after (part.Rounds ∷ []) refl refl (λ wrong. absurd cc) why (settles decls granted seen is)

-- the line `reconcile`

-- whatever rounds did, and a reconciliation where a hub was still up: nothing is shown where any came, and none does only where the hub is up
reconcile_shows : {D : Type 0} (decls : Decls) (turns : List (Turn D)) (world : Seen D) → (turns ≡ [] → is_some world.hub ≡ true) → Shows decls step.Reconcile turns world []
reconcile_shows decls [] world up = on world.hub (up refl)
  where
    on : (o : Option HubState) → is_some o ≡ true → [] ≡ idle_words step.Reconcile o
    on None is = absurd (false≢true is)
    on (Some hub) is = refl
reconcile_shows decls (turn ∷ turns) world up = refl

-- a hub that is up is seen
seen_up : {D : Type 0} (here : Setting D) (seen : Seen D) (place : Place D) → IsPlaceSeenAs here seen place → is_some (hub_in place) ≡ true → is_some seen.hub ≡ true
seen_up here seen (Up hub) is up = ap (λ (o : Option HubState). is_some o) is.is
seen_up here seen (Down disk decls) is up = absurd (false≢true up)
seen_up here seen (Ended disk) is up = absurd is
seen_up here seen Moved is up = absurd is

-- all that it does is one row
abbrev pub mending_parts : {D : Type 0} → Setting D → List Part
mending_parts here = part.Beginning ∷ map part.Operations (declared here.decls) ++ part.Ending ∷ []

pub reconcile_line : {D : Type 0} (disk : DiskMeaning D) (old middle new : Scene D) (before between after : List ℕ) (result : Result (Unit {0}) WorldStop) → is_some (hub_in old.place) ≡ true
    → SettlesRounds disk old (done tt) middle before between → RowOrEnd disk mending_parts middle result new between after → OnOk result (IsNotReconciling new.place)
    → IsLineCall disk step.Reconcile old result new before after
reconcile_line {D = D} disk old middle new before between after result up settles each unmended = λ decls granted seen is may.
    by result each unmended decls granted seen is
  where
    rounds : RowOrEnd disk (λ here. part.Rounds ∷ []) old (done tt) middle before between
    rounds = λ decls granted seen is. (settles decls granted seen is).0

    by : (result : Result (Unit {0}) WorldStop) → RowOrEnd disk mending_parts middle result new between after → OnOk result (IsNotReconciling new.place)
        → (decls : Decls) (granted : Bool) (seen : Seen D) → IsSeenAs (run_setting disk decls old.limit granted) seen old
        → MatchResult result (λ value. DoesLine (run_setting disk decls old.limit granted) step.Reconcile seen old new before after)
        (λ why. EndsInLine (run_setting disk decls old.limit granted) step.Reconcile seen old new before after why)
    by (Ok value) each unmended decls granted seen is =
        let here : Setting D = run_setting disk decls old.limit granted in
        let parts : List Part = part.Rounds ∷ mending_parts here in
        let does : DoesParts here seen old new before after parts =
        row_then disk (λ here. part.Rounds ∷ []) mending_parts old middle new before between after (done tt) rounds each decls granted seen is in
        parts_line here step.Reconcile seen old new before after parts refl refl (λ wrong. absurd cc) (λ device. refl) does
        (reconcile_shows here.decls does.turns does.next
        (λ none. subst (λ (w : Seen D). is_some w.hub ≡ true) (goes_nothing here false parts seen does.next does.turns none does.goes) (seen_up here seen old.place is.place up)))
        unmended
    by (Err why) each unmended decls granted seen is =
        let here : Setting D = run_setting disk decls old.limit granted in
        ends_line here step.Reconcile seen old new before after (part.Rounds ∷ mending_parts here) refl refl (λ wrong. absurd cc) why
        (row_then disk (λ here. part.Rounds ∷ []) mending_parts old middle new before between after (ended why) rounds each decls granted seen is)

-- the run ended in its rounds
pub reconcile_ended : {D : Type 0} (disk : DiskMeaning D) (old new : Scene D) (before after : List ℕ) (why : WorldStop) → SettlesRounds disk old (ended why) new before after
    → IsLineCall disk step.Reconcile old (ended why) new before after
reconcile_ended {D = D} disk old new before after why settles = λ decls granted seen is may.
    (let here : Setting D = run_setting disk decls old.limit granted in
    ends_line here step.Reconcile seen old new before after (part.Rounds ∷ mending_parts here) refl refl (λ wrong. absurd cc) why
    (row_ended disk (λ here. part.Rounds ∷ []) mending_parts old new before after why settles decls granted seen is))

-- where no hub is up nothing comes, and that is printed

not_admission : {D : Type 0} (seen : Seen D) (one : Event) (next : Seen D) → IsOf part.Admission one → DoesAnyway seen one next → ⊥
not_admission seen one next of (DoesAnyway.ticks seconds) = of
not_admission seen one next of (DoesAnyway.restarts device) = of
not_admission seen one next of (DoesAnyway.answers_down call front none) = of

not_decision : {D : Type 0} (seen : Seen D) (one : Event) (next : Seen D) → IsOf part.Decisions one → DoesAnyway seen one next → ⊥
not_decision seen one next of (DoesAnyway.ticks seconds) = of
not_decision seen one next of (DoesAnyway.restarts device) = of
not_decision seen one next of (DoesAnyway.answers_down call front none) = of

module _ {D : Type 0} (here : Setting D) (seen : Seen D) (down : seen.hub ≡ None) where
  none_admits : NoneOf here seen part.Admission
  none_admits one of (inl (hub, row, next, up, does)) = absurd (none-some hub (sym down ∙ up))
  none_admits one of (inr (inl (next, does))) = not_admission seen one next of does
  none_admits one of (inr (inr (recovers, none))) = subst (λ (e : Event). IsOf part.Admission e) recovers of

  none_decides : NoneOf here seen part.Decisions
  none_decides one of (inl (hub, row, next, up, does)) = absurd (none-some hub (sym down ∙ up))
  none_decides one of (inr (inl (next, does))) = not_decision seen one next of does
  none_decides one of (inr (inr (recovers, none))) = subst (λ (e : Event). IsOf part.Decisions e) recovers of

  none_performs : (device : ℕ) → NoneOf here seen (part.Operation device)
  none_performs device one of (inl (hub, row, next, up, does)) = absurd (none-some hub (sym down ∙ up))
  none_performs device one of (inr (inl (next, does))) = any_none here seen device one next (operation_of_device here device one of) does
  none_performs device one of (inr (inr (recovers, none))) = subst (λ (e : Event). IsOf (part.Operation device) e) recovers of

  none_hears : (device : ℕ) → NoneOf here seen (part.Hearing device)
  none_hears device one of (inl (hub, row, next, up, does)) = absurd (none-some hub (sym down ∙ up))
  none_hears device one of (inr (inl (next, does))) = any_none here seen device one next (hearing_of_device here device one of) does
  none_hears device one of (inr (inr (recovers, none))) = subst (λ (e : Event). IsOf (part.Hearing device) e) recovers of

  still_down : IsStill here seen
  still_down device = (none_admits, none_performs device, none_hears device, none_decides)

pub reconcile_down : {D : Type 0} (disk : DiskMeaning D) (old : Scene D) (before after : List ℕ) (result : Result (Unit {0}) WorldStop) (text : Result (Vec ℕ) Memory)
    → is_some (hub_in old.place) ≡ false → IsNotReconciling old.place → IfOk text (λ bytes. bytes.items ≡ codes "reconcile down\n") → PrintsText text before result after
    → IsLineCall disk step.Reconcile old result old before after
reconcile_down {D = D} disk old before after result text down unmended says prints = λ decls granted seen is may.
    (let here : Setting D = run_setting disk decls old.limit granted in
    let none : seen.hub ≡ None = none_up here seen old.place is.place down in
    said_line here step.Reconcile seen old before after text result (λ bytes. bytes ≡ codes "reconcile down\n") says prints is refl
    (λ bytes shown printed. record {
      turns = [];
      next = seen;
      text = bytes;
      done = record {
        goes = Goes.still (mending_parts here) seen seen [] (still_down here seen none) (mends_nothing here seen none (declared here.decls));
        prints = record { after = bytes; printed = refl; shows = shown ∙ ap (λ (o : Option HubState). idle_words step.Reconcile o) (sym none) };
        ends = unended here [] tt;
      };
      is = is;
      unmended = unmended;
      limit = refl;
      events = sym (append-nil old.events.items.items);
      logs = λ device. sym (append-nil (noted_on old.links.logs device));
      log = λ device wrong. absurd cc;
      printed = printed;
    }))
