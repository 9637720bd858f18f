-- What comes in a call of the scene.
use Rattle.std.specs.Prelude.{[], ◌≡◌, ◌≤◌, ◌+◌, ◌⊎◌, vec_len, vec_capacity, ◌++◌, ◌∷◌, ℕ, Bool, true, false, Option, Some, None, List, is_some, length, not, Result, MatchResult}
use Rattle.std.specs.List.{flat_map, list_all}
use Rattle.orc_decls.specs.declared.declarations.Decls.{Decls}
use Rattle.orc_device.specs.declared.reply.Logged.{Logged}
use Rattle.orc_disk.specs.Meanings.{DiskMeaning}
use Rattle.orc_links.specs.Logs.{noted_on}
use Rattle.orc_hub.specs.declared.hub.Hub.{Hub}
use Rattle.orc_rules.specs.Duties.{is_busy}
use Rattle.orc_rules.specs.Events.{Comes, Turn}
use Rattle.orc_rules.specs.Hubs.{has_met_failure}
use Rattle.orc_rules.specs.Worlds.{Setting, World as Seen}
use Rattle.orc_print.specs.Printed.{recovered_line}
use Rattle.orc_rules.specs.Journals.{history_read}
use Rattle.orc_rules.specs.declared.event.Event.{Event}
use Rattle.orc_rules.specs.declared.event.Event.TheVariants as event
use Rattle.orc_runs.specs.Ends.{EndedBecause}
use Rattle.orc_runs.specs.Runs.{EndsRun, operation_of}
use Rattle.orc_runs.specs.Scripts.{Goes, IsCalledFor, IsOf, NoneOf, Part, Part as part, said_in}
use Rattle.orc_script.specs.declared.step.ScriptStep.TheVariants as step
use Rattle.orc_scene.specs.Stands.{HasDisk, IsSeenAs, IsNotReconciling, run_setting}
use Rattle.orc_scene.specs.RunEnds.{end_of_run}
use Rattle.orc_scene.specs.declared.stop.WorldStop.{WorldStop}
use Rattle.orc_scene.specs.declared.stop.WorldStop.TheVariants as stop
use Rattle.orc_scene.specs.declared.scene.Scene.{Scene}

-- an event that is seen, if one is
abbrev pub event_list : Option Event → List Event
event_list None = []
event_list (Some one) = one ∷ []

-- the events that are seen in turns
abbrev pub events_in : {D : Type 0} → List (Turn D) → List Event
events_in turns = flat_map (λ turn. event_list turn.seen) turns

-- the operations of a device that were performed in turns
abbrev pub operations_in : {D : Type 0} → ℕ → List (Turn D) → List Logged
operations_in device turns = flat_map (λ turn. operation_of device turn turn.seen) turns

-- what is said in turns, in any line but one that recovers
abbrev pub told_in : {D : Type 0} → Decls → List (Turn D) → List ℕ
told_in decls turns = said_in decls step.Settle turns

-- there is room for so many events more
abbrev pub HasRoom : {D : Type 0} → ℕ → Scene D → Type 0
HasRoom count scene = vec_len scene.events.items + count ≤ vec_capacity scene.events.items

-- the scene is as it was, but for these events
pub record HasEvents {D : Type 0} (old new : Scene D) (events : List Event) : Type 0 where
  pub alloc : new.alloc ≡ old.alloc
  pub limit : new.limit ≡ old.limit
  pub place : new.place ≡ old.place
  pub links : new.links ≡ old.links
  pub snapshots : new.snapshots ≡ old.snapshots
  pub events_are : new.events.items.items ≡ events

-- no turn ends the run
abbrev pub GoOn : {D : Type 0} → List (Turn D) → Type 0
GoOn [] = Unit {0}
GoOn (turn ∷ turns) = (EndsRun turn → ⊥) × GoOn turns

-- at most the last turn ends the run
abbrev pub EndAtLast : {D : Type 0} → List (Turn D) → Type 0
EndAtLast {D} turns =
    (earlier later : List (Turn D)) (turn : Turn D) → turns ≡ earlier ++ turn ∷ later → EndsRun turn → later ≡ []

-- what is said in these turns was printed, all of it
abbrev pub PrintsTold : {D : Type 0} → Decls → List ℕ → List ℕ → List (Turn D) → Type 0
PrintsTold decls before after turns = after ≡ before ++ told_in decls turns

-- What is said in turns with which the run ended was printed; but maybe not that of the last one, if memory ran out.
abbrev pub PrintsMost : {D : Type 0} → Decls → WorldStop → List ℕ → List ℕ → List (Turn D) → Type 0
PrintsMost {D} decls stop.Memory before after turns = (front rest : List (Turn D))
    × (turns ≡ front ++ rest) × (length rest ≤ 1) × (after ≡ before ++ told_in decls front)
PrintsMost decls other before after turns = PrintsTold decls before after turns

module _ {D : Type 0} (here : Setting D) (old new : Scene D) where
  -- The scene went through these turns: the rules see it after them, the events are kept, and the operations are noted.
  pub record GoesThrough (turns : List (Turn D)) (after : Seen D) : Type 0 where
    pub is : IsSeenAs here after new
    pub limit : new.limit ≡ old.limit
    pub events : new.events.items.items ≡ old.events.items.items ++ events_in turns
    pub logs : (device : ℕ)
        → noted_on new.links.logs device ≡ noted_on old.links.logs device ++ operations_in device turns
    pub goes_on : GoOn turns

  -- The run ended with these turns: the disk of the journal is that which the rules see after them, and the events are
  -- kept.
  pub record EndsWith (turns : List (Turn D)) (last : Seen D) : Type 0 where
    pub disk : HasDisk new.place last.journal.disk
    pub events : new.events.items.items ≡ old.events.items.items ++ events_in turns
    pub at_last : EndAtLast turns

module _ {D : Type 0} (here : Setting D) (seen : Seen D) (old new : Scene D) (before after : List ℕ) where
  -- An event of a part came.
  pub record DoesTurn (one : Part) : Type 0 where
    pub turn : Turn D
    pub first : turn.before ≡ seen
    pub is_of : IsOf one turn.meant
    pub called : IsCalledFor here seen one
    pub comes : Comes here turn
    pub through : GoesThrough here old new (turn ∷ []) turn.behind
    pub prints : PrintsTold here.decls before after (turn ∷ [])

  -- An event of a part came; nothing is said of what was printed, nor of what called for it.
  pub record GoesTurn (one : Part) : Type 0 where
    pub turn : Turn D
    pub first : turn.before ≡ seen
    pub is_of : IsOf one turn.meant
    pub comes : Comes here turn
    pub through : GoesThrough here old new (turn ∷ []) turn.behind

  -- The run ended with an event of a part.
  pub record EndsTurn (one : Part) (why : WorldStop) : Type 0 where
    pub turn : Turn D
    pub first : turn.before ≡ seen
    pub is_of : IsOf one turn.meant
    pub called : IsCalledFor here seen one
    pub comes : Comes here turn
    pub because : EndedBecause here (turn ∷ []) (end_of_run why)
    pub ended : EndsWith here old new (turn ∷ []) turn.behind
    pub prints : PrintsMost here.decls why before after (turn ∷ [])

  -- Nothing came, and the run ended since memory ran out.
  pub record EndsAtOnce (why : WorldStop) : Type 0 where
    pub memory : why ≡ stop.Memory
    pub disk : HasDisk new.place seen.journal.disk
    pub events : new.events.items.items ≡ old.events.items.items
    pub printed : after ≡ before

  -- nothing came
  pub record StaysSame : Type 0 where
    pub is : IsSeenAs here seen new
    pub limit : new.limit ≡ old.limit
    pub events : new.events.items.items ≡ old.events.items.items
    pub logs : new.links.logs ≡ old.links.logs
    pub printed : after ≡ before

  -- An operation came on a device, and the hub heard of it.
  pub record DoesOperation (device : ℕ) : Type 0 where
    pub turn : Turn D
    pub first : turn.before ≡ seen
    pub is_of : IsOf (part.Operation device) turn.meant
    pub comes : Comes here turn
    pub hearing : Turn D
    pub second : hearing.before ≡ turn.behind
    pub hears : IsOf (part.Hearing device) hearing.meant
    pub heard : Comes here hearing
    pub through : GoesThrough here old new (turn ∷ hearing ∷ []) hearing.behind
    pub printed : after ≡ before

  -- A row of parts was done.
  pub record DoesParts (parts : List Part) : Type 0 where
    pub turns : List (Turn D)
    pub next : Seen D
    pub goes : Goes here false parts seen turns next
    pub through : GoesThrough here old new turns next
    pub prints : PrintsTold here.decls before after turns

  -- The run ended within a row of parts.
  pub record EndsInParts (parts : List Part) (why : WorldStop) : Type 0 where
    pub turns : List (Turn D)
    pub last : Seen D
    pub goes : Goes here true parts seen turns last
    pub because : EndedBecause here turns (end_of_run why)
    pub ended : EndsWith here old new turns last
    pub prints : PrintsMost here.decls why before after turns

  -- Either an event of a part came, or none may.
  abbrev pub MayDoTurn : Part → Bool → Type 0
  MayDoTurn one came = ((came ≡ true) × DoesTurn one) ⊎ ((came ≡ false) × NoneOf here seen one × StaysSame)

  -- Either an operation came on a device, or none may.
  abbrev pub MayDoOperation : ℕ → Bool → Type 0
  MayDoOperation device came = ((came ≡ true) × DoesOperation device)
      ⊎ ((came ≡ false) × NoneOf here seen (part.Operation device) × NoneOf here seen (part.Hearing device) × StaysSame)

  -- the run ended, with an event of a part or before one
  abbrev pub MayEndTurn : Part → WorldStop → Type 0
  MayEndTurn one why = EndsTurn one why ⊎ EndsAtOnce why

-- whatever the rules see of the scene
abbrev pub InEachView : {D : Type 0} → DiskMeaning D → Scene D → (Setting D → Seen D → Type 0) → Type 0
InEachView {D} disk old IsSo = (decls : Decls) (granted : Bool) (seen : Seen D)
    → IsSeenAs (run_setting disk decls old.limit granted) seen old
    → IsSo (run_setting disk decls old.limit granted) seen

-- A call does one event of a part, or the run ends.
abbrev pub TurnOrEnd : {D A : Type 0} → DiskMeaning D → Part → Scene D → Result A WorldStop → Scene D → List ℕ → List ℕ
    → Type 0
TurnOrEnd disk one old result new before after = InEachView disk old (λ here seen. MatchResult result
    (λ value. DoesTurn here seen old new before after one)
    (λ why. MayEndTurn here seen old new before after one why))

-- A call does one event of a part, if one may come, or the run ends.
abbrev pub TurnOrNone : {D : Type 0} → DiskMeaning D → Part → Scene D → Result Bool WorldStop → Scene D → List ℕ
    → List ℕ → Type 0
TurnOrNone disk one old result new before after = InEachView disk old (λ here seen. MatchResult result
    (λ came. MayDoTurn here seen old new before after one came)
    (λ why. MayEndTurn here seen old new before after one why))

-- A call does a row of parts, or the run ends in it.
abbrev pub RowOrEnd : {D A : Type 0} → DiskMeaning D → (Setting D → List Part) → Scene D → Result A WorldStop → Scene D
    → List ℕ → List ℕ → Type 0
RowOrEnd disk parts old result new before after = InEachView disk old (λ here seen. MatchResult result
    (λ value. DoesParts here seen old new before after (parts here))
    (λ why. EndsInParts here seen old new before after (parts here) why))

-- A reconciliation is begun, and no operation is due on any device, unless it met a failure.
abbrev pub MendsDevices : {D : Type 0} → Hub D → Type 0
MendsDevices hub = (is_some hub.mends ≡ true)
    × (has_met_failure hub.mends ≡ false → list_all (λ duty. not (is_busy duty)) hub.duties ≡ true)

-- The controller stops.
abbrev pub StopsController : {D : Type 0} → DiskMeaning D → Scene D → Scene D → Type 0
StopsController disk old new = InEachView disk old (λ here seen.
    (went : GoesTurn here seen old new [] [] part.Stopping) × (went.turn.seen ≡ Some event.Stop))

-- A recovery came to nothing, and the run ended with it.
pub record EndsUnopened {D : Type 0} (here : Setting D) (seen : Seen D) (old new : Scene D) (why : WorldStop)
    : Type 0 where
  pub last : Seen D
  pub comes : Comes here (record { before = seen; meant = event.Recover; seen = None; behind = last })
  pub because : EndedBecause here (record { before = seen; meant = event.Recover; seen = None; behind = last } ∷ [])
      (end_of_run why)
  pub disk : HasDisk new.place last.journal.disk
  pub events : new.events.items.items ≡ old.events.items.items

-- The controller, which is down, opens its journal again, and how many calls there are is printed; or the run ends.
abbrev pub RecoversDown : {D : Type 0} → DiskMeaning D → Scene D → Result (Unit {0}) WorldStop → Scene D → List ℕ
    → List ℕ → Type 0
RecoversDown disk old result new before after = InEachView disk old (λ here seen. here.granted ≡ false
    → MatchResult result
    (λ done. (went : GoesTurn here seen old new [] [] part.Recovery) × IsNotReconciling new.place
    × (went.turn.seen ≡ Some event.Recover)
    × (after ≡ before ++ recovered_line (length (history_read went.turn.behind.journal))))
    (λ why. (EndsUnopened here seen old new why × (after ≡ before))
    ⊎ ((why ≡ stop.Memory) × GoesTurn here seen old new [] [] part.Recovery × (after ≡ before))))
