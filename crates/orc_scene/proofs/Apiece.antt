-- An operation of each device, one device after another.
use Rattle.std.proofs.Common.{[], ◌≡◌, ◌≤◌, ◌<◌, ◌+◌, ◌⊎◌, ℕ, Option, Some, None, List, ◌∷◌, ◌++◌, refl, sym, ap, subst, ◌∙◌, append-nil}
use Rattle.std.specs.Prelude.{if◌then◌else◌}
use Rattle.std.proofs.lemmas.Bool.{false≢true}
use Rattle.orc_device.specs.declared.op.Op.{Op}
use Rattle.orc_device.specs.declared.op.Op.TheVariants as op
use Rattle.orc_device.specs.declared.kind.OpKind.{OpKind}
use Rattle.orc_device.specs.declared.reply.Reply.{Reply}
use Rattle.orc_journal.specs.declared.entry.Entry.{Entry}
use Rattle.orc_rules.specs.Events.{DoesAnyway, DoesUnderHub}
use Rattle.orc_rules.specs.Hubs.{Hub, due_on}
use Rattle.orc_rules.specs.Worlds.{Setting, World as Seen}
use Rattle.orc_rules.specs.declared.event.Event.{Event}
use Rattle.orc_rules.specs.declared.event.Event.TheVariants as event
use Rattle.orc_runs.specs.Ends.{EndedBecause}
use Rattle.orc_runs.specs.Scripts.{Goes, IsOf, Part, Part as part, said}
use Rattle.orc_scene.specs.Courses.{EndsAtOnce, EndsInParts}
use Rattle.orc_scene.specs.RunEnds.{end_of_run}
use Rattle.orc_scene.specs.declared.stop.WorldStop.{WorldStop}
use Rattle.orc_scene.specs.declared.scene.Scene.{Scene}
use Rattle.orc_scene.proofs.Looping.{at_last_none}
use Rattle.orc_scene.proofs.Unsaid.{all_told}

module _ {D : Type 0} (here : Setting D) where
  -- an operation is one of the operations of its device, and so is that the hub hears of it
  pub operation_of_device : (device : ℕ) (one : Event) → IsOf (part.Operation device) one → IsOf (part.Operations device) one
  operation_of_device device (event.Perform other op reply count) is = is
  operation_of_device device (event.Unsent other) is = is
  operation_of_device device (event.Report other op reply count) is = absurd is
  operation_of_device device (event.Begin other front) is = absurd is
  operation_of_device device (event.Submit call front given) is = absurd is
  operation_of_device device (event.Admit t given) is = absurd is
  operation_of_device device (event.Decide t given) is = absurd is
  operation_of_device device (event.Settle t) is = absurd is
  operation_of_device device (event.Tick seconds) is = absurd is
  operation_of_device device (event.Restart other) is = absurd is
  operation_of_device device event.Stop is = absurd is
  operation_of_device device event.Recover is = absurd is
  operation_of_device device (event.Reconcile result) is = absurd is

  pub hearing_of_device : (device : ℕ) (one : Event) → IsOf (part.Hearing device) one → IsOf (part.Operations device) one
  hearing_of_device device (event.Perform other op reply count) is = absurd is
  hearing_of_device device (event.Unsent other) is = absurd is
  hearing_of_device device (event.Report other op reply count) is = is
  hearing_of_device device (event.Begin other front) is = absurd is
  hearing_of_device device (event.Submit call front given) is = absurd is
  hearing_of_device device (event.Admit t given) is = absurd is
  hearing_of_device device (event.Decide t given) is = absurd is
  hearing_of_device device (event.Settle t) is = absurd is
  hearing_of_device device (event.Tick seconds) is = absurd is
  hearing_of_device device (event.Restart other) is = absurd is
  hearing_of_device device event.Stop is = absurd is
  hearing_of_device device event.Recover is = absurd is
  hearing_of_device device (event.Reconcile result) is = absurd is

  -- where no operation is due there, none may come
  pub under_none : (world : Seen D) (hub : Hub) (device : ℕ) → due_on hub device ≡ None → (one : Event) (row : List Entry) (next : Seen D) → IsOf (part.Operation device) one → DoesUnderHub here world hub one row next → ⊥
  under_none world hub device never one row next is (DoesUnderHub.performs other op happened due unheard possible way) =
      let wrong : ◌≡◌ {A = Option Op} None (Some op) = sym never ∙ ap (λ (d : ℕ). due_on hub d) (sym is) ∙ due in cc
  under_none world hub device never one row next is (DoesUnderHub.leaves_unsent other changes due unheard) =
      let wrong : ◌≡◌ {A = Option Op} None (Some (op.Edit changes)) = sym never ∙ ap (λ (d : ℕ). due_on hub d) (sym is) ∙ due in cc
  under_none world hub device never one row next is (DoesUnderHub.reports other op reply unheard) = is
  under_none world hub device never one row next is (DoesUnderHub.begins caller) = is
  under_none world hub device never one row next is (DoesUnderHub.answers call front said asked snap why keeps) = is
  under_none world hub device never one row next is (DoesUnderHub.queues it front snap alike lawful_call closed apart fresh within made number slot) = is
  under_none world hub device never one row next is (DoesUnderHub.turns_away place it said there first idle why) = is
  under_none world hub device never one row next is (DoesUnderHub.admits place it sets there first idle passes fresh) = is
  under_none world hub device never one row next is (DoesUnderHub.commits place it there least due prepared valid) = is
  under_none world hub device never one row next is (DoesUnderHub.aborts place it said there least due why) = is
  under_none world hub device never one row next is (DoesUnderHub.settles place it there least settling) = is
  under_none world hub device never one row next is DoesUnderHub.stops = is
  under_none world hub device never one row next is (DoesUnderHub.mends numbers idle unsettled) = is
  under_none world hub device never one row next is (DoesUnderHub.mended numbers met busy heard unsettled) = is
  under_none world hub device never one row next is (DoesUnderHub.finds_no_memory met busy heard) = is
  under_none world hub device never one row next is (DoesUnderHub.fails_to_mend met failed heard) = is

  -- where every reply is heard, none may be heard
  pub heard_none : (world : Seen D) (hub : Hub) (device : ℕ) → (world.links device).unheard ≡ None → (one : Event) (row : List Entry) (next : Seen D) → IsOf (part.Hearing device) one → DoesUnderHub here world hub one row next → ⊥
  heard_none world hub device never one row next is (DoesUnderHub.performs other op happened due unheard possible way) = is
  heard_none world hub device never one row next is (DoesUnderHub.leaves_unsent other changes due unheard) = is
  heard_none world hub device never one row next is (DoesUnderHub.reports other op reply unheard) =
      let wrong : ◌≡◌ {A = Option (OpKind × Reply)} None (Some (op, reply)) = sym never ∙ ap (λ (d : ℕ). (world.links d).unheard) (sym is) ∙ unheard in cc
  heard_none world hub device never one row next is (DoesUnderHub.begins caller) = is
  heard_none world hub device never one row next is (DoesUnderHub.answers call front said asked snap why keeps) = is
  heard_none world hub device never one row next is (DoesUnderHub.queues it front snap alike lawful_call closed apart fresh within made number slot) = is
  heard_none world hub device never one row next is (DoesUnderHub.turns_away place it said there first idle why) = is
  heard_none world hub device never one row next is (DoesUnderHub.admits place it sets there first idle passes fresh) = is
  heard_none world hub device never one row next is (DoesUnderHub.commits place it there least due prepared valid) = is
  heard_none world hub device never one row next is (DoesUnderHub.aborts place it said there least due why) = is
  heard_none world hub device never one row next is (DoesUnderHub.settles place it there least settling) = is
  heard_none world hub device never one row next is DoesUnderHub.stops = is
  heard_none world hub device never one row next is (DoesUnderHub.mends numbers idle unsettled) = is
  heard_none world hub device never one row next is (DoesUnderHub.mended numbers met busy heard unsettled) = is
  heard_none world hub device never one row next is (DoesUnderHub.finds_no_memory met busy heard) = is
  heard_none world hub device never one row next is (DoesUnderHub.fails_to_mend met failed heard) = is

  pub any_none : (world : Seen D) (device : ℕ) (one : Event) (next : Seen D) → IsOf (part.Operations device) one → DoesAnyway world one next → ⊥
  any_none world device one next is (DoesAnyway.ticks seconds) = is
  any_none world device one next is (DoesAnyway.restarts other) = is
  any_none world device one next is (DoesAnyway.answers_down call front down) = is

module _ {D : Type 0} (here : Setting D) (seen : Seen D) (old : Scene D) where
  -- the run ended before a part, since memory ran out
  pub once_ends : (new : Scene D) (before after : List ℕ) (parts : List Part) (why : WorldStop) → EndsAtOnce here seen old new before after why → EndsInParts here seen old new before after parts why
  once_ends new before after parts why ends = record {
    turns = [];
    last = seen;
    goes = Goes.broken parts seen refl;
    because = subst (λ (w : WorldStop). EndedBecause here [] (end_of_run w)) (sym ends.memory) tt;
    ended = record { disk = ends.disk; events = ends.events ∙ sym (append-nil old.events.items.items); at_last = at_last_none [] tt };
    prints = all_told here.decls why before after [] (ends.printed ∙ sym (append-nil before));
  }
