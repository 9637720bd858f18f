-- The claim of every run, and what it says of devices.
use Rattle.std.specs.Prelude.{[], ◌≡◌, ◌≤◌, ℕ, Bool, true, Option, Some, None, List, ◌∷◌, ◌++◌, Contains}
use Rattle.std.specs.declared.result.Result.TheVariants as result
use Rattle.orc_call.specs.declared.answer.RecFault.TheVariants as fault
use Rattle.orc_call.specs.declared.answer.Tag.{Tag}
use Rattle.orc_datastore.specs.Legal.{state_of}
use Rattle.orc_datastore.specs.States.{tree_due}
use Rattle.orc_decls.specs.Declarations.{AreDecls}
use Rattle.orc_decls.specs.declared.declarations.Decls.{Decls}
use Rattle.orc_device.specs.Nodes.{DeviceKind, kept_tree}
use Rattle.orc_device.specs.declared.kind.OpKind.{OpKind}
use Rattle.orc_device.specs.declared.reply.Mark.{Mark}
use Rattle.orc_disk.specs.Meanings.{DiskMeaning}
use Rattle.orc_rules.specs.Acceptance.{AcceptsFronts, RepliesKept, declared_kind}
use Rattle.orc_rules.specs.Duties.{no_call_works}
use Rattle.orc_rules.specs.Events.{Steps, Turn}
use Rattle.orc_rules.specs.Facts.{pending_id}
use Rattle.orc_rules.specs.Hubs.{Hub, due_on, duty_on}
use Rattle.orc_rules.specs.Journals.{entries_read, history_read}
use Rattle.orc_rules.specs.Laws.{setting}
use Rattle.orc_rules.specs.Told.{told_by}
use Rattle.orc_rules.specs.Kept.{HistoryKept}
use Rattle.orc_rules.specs.UnderHub.{DevicesKept}
use Rattle.orc_rules.specs.Worlds.{IsIdle, Setting, World}
use Rattle.orc_rules.specs.declared.event.Event.{Event}
use Rattle.orc_rules.specs.declared.event.Event.TheVariants as event
use Rattle.orc_runs.specs.Headline.{Headline, IsBackAt, IsDeclared, IsInSync, IsPending, IsReconciled, IsResolvedAsDecided, MovesOn, at_of}
use Rattle.orc_runs.specs.Runs.{Run, turns_of}
use Rattle.orc_runs.specs.Scripts.{IsStill, set_by}
use Rattle.orc_runs.specs.Serving.{IsRested, ServesWorld}
use Rattle.orc_runs.specs.Starts.{AreDevicesOf, StartsRun}
use Rattle.orc_script.specs.declared.step.ScriptStep.{ScriptStep}

-- Whatever is declared, whatever devices of these declarations accept, and whatever the script is: it is so of each run
-- of it over this disk, from its beginning on: a new hub over a journal that was opened, and devices that run their
-- bases.
abbrev pub EachRun : {D : Type 0} → DiskMeaning D
    → ((here : Setting D) (script : List ScriptStep) (first last : World D) → Run here script first last → Type 0)
    → Type 0
EachRun {D} disk IsSo =
    (decls : Decls) (kinds : ℕ → DeviceKind) (limit : ℕ) (granted : Bool)
    (script : List ScriptStep) (first last : World D)
    (run : Run (setting disk decls kinds limit granted) script first last)
    → AreDecls decls → AreDevicesOf decls kinds
    → StartsRun (setting disk decls kinds limit granted) first
    → IsSo (setting disk decls kinds limit granted) script first last run

-- each run has the headline
abbrev pub RunsHaveTheHeadline : {D : Type 0} → DiskMeaning D → Type 0
RunsHaveTheHeadline {D} disk = EachRun disk (λ here script first last run. Headline here script first last run)

-- Each run on devices as a bundle declares them has the headline: nothing is asked of these.
abbrev pub BundleRunsHaveTheHeadline : {D : Type 0} → DiskMeaning D → Type 0
BundleRunsHaveTheHeadline {D} disk =
    (decls : Decls) (limit : ℕ) (granted : Bool) (script : List ScriptStep) (first last : World D)
    (run : Run (setting disk decls (declared_kind decls) limit granted) script first last)
    → AreDecls decls → StartsRun (setting disk decls (declared_kind decls) limit granted) first
    → Headline (setting disk decls (declared_kind decls) limit granted) script first last run

-- As a run begins everything is so that each event keeps: of the journal and its history, of devices and the work on
-- them, and of replies.
abbrev pub StartsAreKept : {D : Type 0} → DiskMeaning D → Type 0
StartsAreKept {D} disk =
    (decls : Decls) (kinds : ℕ → DeviceKind) (limit : ℕ) (granted : Bool) (first : World D)
    → AreDecls decls → AreDevicesOf decls kinds → StartsRun (setting disk decls kinds limit granted) first
    → HistoryKept (setting disk decls kinds limit granted) first × DevicesKept decls first
    × RepliesKept (setting disk decls kinds limit granted) first

-- Everything that is kept of a world, of the work under its hub, and of reconciliations is so: as a run begins, after
-- each event, and after what a line sets. No event but the beginning of a reconciliation leaves one unfinished.
pub record AreCarried {D : Type 0} (here : Setting D) (world : World D) : Type 0 where
  pub history : HistoryKept here world
  pub devices : DevicesKept here.decls world
  pub replies : RepliesKept here world
  pub serves : ServesWorld world

-- How a run is carried on, by whoever does it. Where nothing is left for a round under a hub that is up, and no
-- reconciliation is unfinished, the hub is idle.
pub record RunsAreCarried {D : Type 0} (here : Setting D) : Type 0 where
  pub starts : (first : World D) → StartsRun here first → AreCarried here first × IsRested first
  pub events : (old new : World D) (meant : Event) (seen : Option Event) → AreCarried here old
      → Steps here old meant seen new → AreCarried here new
  pub rests : (old new : World D) (meant : Event) (seen : Option Event) → Steps here old meant seen new
      → (meant ≡ event.Reconcile None → ⊥) → IsRested old → IsRested new
  pub settings : (at : ScriptStep) (world : World D) → AreCarried here world → AreCarried here (set_by at world)
  pub rests_set : (at : ScriptStep) (world : World D) → IsRested world → IsRested (set_by at world)
  pub idle : (world : World D) (hub : Hub) → AreCarried here world → IsRested world → world.hub ≡ Some hub
      → IsStill here world → IsIdle hub

-- that is so over this disk, whatever is declared, and whatever devices of these declarations accept
abbrev pub EachRunIsCarried : {D : Type 0} → DiskMeaning D → Type 0
EachRunIsCarried disk = (decls : Decls) (kinds : ℕ → DeviceKind) (limit : ℕ) (granted : Bool)
    → AreDecls decls → AreDevicesOf decls kinds → RunsAreCarried (setting disk decls kinds limit granted)

-- At each moment what a device would come back to is what is due after as many first calls of the history as it has come
-- to, by the Confirms and Commits that took effect there: no device settles on a part of a call, on one that was given up,
-- or ahead of the journal. That number never falls, and the tree changes only by a Confirm or a Commit on the device.
abbrev pub DevicesComeBack : {D : Type 0} → DiskMeaning D → Type 0
DevicesComeBack {D} disk = EachRun disk (λ here script first last run.
    ((earlier later : List (Turn D)) (turn : Turn D) (device : ℕ)
    → turns_of run ≡ earlier ++ turn ∷ later → IsDeclared here.decls device
    → IsBackAt here.decls turn.behind device (at_of here (earlier ++ turn ∷ []) device))
    × ((earlier later : List (Turn D)) (turn : Turn D) (device : ℕ)
    → turns_of run ≡ earlier ++ turn ∷ later → at_of here earlier device ≤ at_of here (earlier ++ turn ∷ []) device)
    × ((turn : Turn D) (device : ℕ) → Contains (turns_of run) turn
    → MovesOn (kept_tree (turn.before.nodes device)) turn.seen (kept_tree (turn.behind.nodes device)) device))

-- at each moment the journal knows what is pending on a device
abbrev pub PendingIsKnown : {D : Type 0} → DiskMeaning D → Type 0
PendingIsKnown {D} disk = EachRun disk (λ here script first last run.
    (turn : Turn D) (device t : ℕ) → Contains (turns_of run) turn
    → pending_id (turn.behind.nodes device).pending ≡ Some t
    → IsPending here.decls turn.behind.journal device t (turn.behind.nodes device))

-- At each moment a device that isn't stale, and on which nobody works, runs what is due, and nothing is pending there.
abbrev pub DevicesAreInStep : {D : Type 0} → DiskMeaning D → Type 0
DevicesAreInStep {D} disk = EachRun disk (λ here script first last run.
    (turn : Turn D) (hub : Hub) (device : ℕ) → Contains (turns_of run) turn
    → IsDeclared here.decls device → turn.behind.hub ≡ Some hub
    → IsInSync hub device → no_call_works (duty_on hub.duties device) ≡ true
    → (turn.behind.links device).unheard ≡ None
    → ((turn.behind.nodes device).running ≡ tree_due (state_of here.decls (history_read turn.behind.journal)) device)
    × ((turn.behind.nodes device).pending ≡ None))

-- A confirmed commit is made and cancelled only where its transaction isn't decided, and confirmed only where its decision
-- is synced. And whenever a reconciliation answers Ok, nothing is left pending or unsettled: each device runs what is due
-- after the whole history, and the journal has no Intent without its Settled.
abbrev pub DecidedIsKept : {D : Type 0} → DiskMeaning D → Type 0
DecidedIsKept {D} disk = EachRun disk (λ here script first last run.
    ((turn : Turn D) (hub : Hub) (device t : ℕ) (kind : OpKind) (reply : Mark) (count : ℕ)
    → Contains (turns_of run) turn → turn.before.hub ≡ Some hub
    → turn.seen ≡ Some (event.Perform device kind reply count)
    → IsResolvedAsDecided turn.before.journal t (due_on hub device))
    × ((turn : Turn D) (device : ℕ) → Contains (turns_of run) turn
    → IsDeclared here.decls device → turn.seen ≡ Some (event.Reconcile (Some (result.Ok tt)))
    → IsReconciled here.decls turn.behind device)
    × ((turn : Turn D) (t : ℕ) → Contains (turns_of run) turn
    → turn.seen ≡ Some (event.Reconcile (Some (result.Ok tt)))
    → (told_by (entries_read turn.behind.journal)).intents t ≡ None))

-- No reconciliation is refused where each device accepts what is due after each first calls of the history at entry. They
-- do so where the history at entry is empty, and where they do so at entry, they do so of the history at the end.
abbrev pub ReconciliationsAreAccepted : {D : Type 0} → DiskMeaning D → Type 0
ReconciliationsAreAccepted {D} disk = EachRun disk (λ here script first last run.
    (AcceptsFronts here.decls here.kinds (history_read first.journal)
    → (earlier later : List (Turn D)) (turn : Turn D) (device : ℕ) (said : Tag) → turns_of run ≡ earlier ++ turn ∷ later
    → turn.seen ≡ Some (event.Reconcile (Some (result.Err (fault.Refused device said)))) → ⊥)
    × (history_read first.journal ≡ [] → AcceptsFronts here.decls here.kinds (history_read first.journal))
    × (AcceptsFronts here.decls here.kinds (history_read first.journal)
    → AcceptsFronts here.decls here.kinds (history_read last.journal)))
