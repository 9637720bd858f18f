-- What small functions do to a scene, apart from the rules.
use Rattle.std.specs.Prelude.{[], ◌≡◌, ◌++◌, ◌∷◌, ◌⊎◌, ℕ, Bool, true, false, Option, Some, None, List, Result, MatchResult, IfErr, OnOk, codes, map}
use Rattle.std.specs.Global.{Vec}
use Rattle.orc_call.specs.declared.answer.Answer.{Answer}
use Rattle.orc_call.specs.declared.answer.RecFault.{RecFault}
use Rattle.orc_call.specs.declared.answer.RecFault.TheVariants as fault
use Rattle.std.specs.declared.result.Result.TheVariants.{Ok, Err}
use Rattle.orc_datastore.specs.Snapshots.{Snapshot}
use Rattle.orc_device.specs.declared.kind.OpKind.{OpKind}
use Rattle.orc_device.specs.declared.reply.Mark.{Mark}
use Rattle.orc_device.specs.declared.reply.Reply.{Reply}
use Rattle.orc_disk.specs.Stops.{Stopping}
use Rattle.orc_hub.specs.Hubs.{record_of, with_record}
use Rattle.orc_rules.specs.Hubs.{hub_reported}
use Rattle.orc_hub.specs.declared.hub.Hub.{Hub}
use Rattle.orc_links.specs.Networks.{link_dropped}
use Rattle.orc_print.specs.Printed.{answer_line, mended_line}
use Rattle.orc_rules.specs.declared.event.Event.{Event}
use Rattle.orc_rules.specs.declared.event.Event.TheVariants as event
use Rattle.orc_scene.specs.Courses.{event_list}
use Rattle.orc_scene.specs.Snapshots.{taken_by_others, taken_with}
use Rattle.orc_scene.specs.declared.stop.WorldStop.{WorldStop}
use Rattle.orc_scene.specs.declared.stop.WorldStop.TheVariants as stop
use Rattle.orc_scene.specs.declared.scene.Place.{Place}
use Rattle.orc_scene.specs.declared.scene.Place.TheVariants.{Up, Down, Ended, Moved}
use Rattle.orc_scene.specs.declared.scene.Scene.{Scene}
use Rattle.orc_scene.specs.Effects.{PrintsText}

-- the place without its hub: the disk that is inside, and the declarations
abbrev pub place_without : {D : Type 0} → Place D → Place D
place_without (Up hub) = Down hub.log.journal.disk.inner hub.decls
place_without other = other

-- no hub is up, and the run goes on
abbrev pub IsClosed : {D : Type 0} → Place D → Type 0
IsClosed (Down disk decls) = Unit {0}
IsClosed (Up hub) = ⊥
IsClosed (Ended disk) = ⊥
IsClosed Moved = ⊥

-- the disk of a hub that is up is stopped
abbrev pub is_stopped : {D : Type 0} → Place D → Bool
is_stopped (Up hub) = hub.log.journal.disk.stopped
is_stopped other = false

-- a hub that is up is down, since an append of it failed
abbrev pub is_down : {D : Type 0} → Place D → Bool
is_down (Up hub) = hub.down
is_down other = false

-- the hub is let go, and with it all snapshots
pub record LetsGo {D : Type 0} (old new : Scene D) : Type 0 where
  pub alloc : new.alloc ≡ old.alloc
  pub limit : new.limit ≡ old.limit
  pub place : new.place ≡ place_without old.place
  pub links : new.links ≡ old.links
  pub taken : new.snapshots.taken ≡ []
  pub events : new.events ≡ old.events

-- the controller stopped: all sessions end, and the stop is kept
pub record Stops {D : Type 0} (old new : Scene D) : Type 0 where
  pub limit : new.limit ≡ old.limit
  pub place : new.place ≡ place_without old.place
  pub links : new.links ≡ record old.links { links = map link_dropped old.links.links }
  pub taken : new.snapshots.taken ≡ []
  pub events : new.events.items.items ≡ old.events.items.items ++ event.Stop ∷ []

-- the hub is let go, and this is kept
pub record LetsGoWith {D : Type 0} (old new : Scene D) (events : List Event) : Type 0 where
  pub limit : new.limit ≡ old.limit
  pub place : new.place ≡ place_without old.place
  pub links : new.links ≡ old.links
  pub taken : new.snapshots.taken ≡ []
  pub events_are : new.events.items.items ≡ old.events.items.items ++ events

-- What becomes of a scene whose hub went down as an entry was appended. The stop came: the controller is stopped, and
-- that is printed. Or the disk failed: this is seen, and this text printed, and the run ends.
abbrev pub FailsAppend : {D M : Type 0} → Scene D → Option Event → Result (Vec ℕ) M → List ℕ
    → Result (Unit {0}) WorldStop → Scene D → List ℕ → Type 0
FailsAppend old seen text before result new after =
    ((is_stopped old.place ≡ true) × Stops old new
    × OnOk result (after ≡ before ++ codes "stopped\n")
    × IfErr result (λ why. (why ≡ stop.Memory) × (after ≡ before)))
    ⊎ ((is_stopped old.place ≡ false) × LetsGoWith old new (event_list seen)
    × IfErr result (λ why. ((why ≡ stop.JournalFault)
    × MatchResult text (λ bytes. after ≡ before ++ bytes.items) (λ memory. ⊥))
    ⊎ ((why ≡ stop.Memory) × (after ≡ before)))
    × OnOk result ⊥)

-- the snapshot of a caller is dropped, and an event kept
pub record AnswersCaller {D : Type 0} (old : Scene D) (caller : List ℕ) (one : Event) (new : Scene D) : Type 0 where
  pub limit : new.limit ≡ old.limit
  pub place : new.place ≡ old.place
  pub links : new.links ≡ old.links
  pub taken : new.snapshots.taken ≡ taken_by_others caller old.snapshots.taken
  pub events : new.events.items.items ≡ old.events.items.items ++ one ∷ []

-- What becomes of a scene whose hub answered a call of this caller: where the hub is down the append failed, and else
-- the caller's snapshot is dropped, and the event kept.
abbrev pub ConcludesCall : {D M : Type 0} → Scene D → List ℕ → Event → Result (Vec ℕ) M → List ℕ
    → Result (Unit {0}) WorldStop → Scene D → List ℕ → Type 0
ConcludesCall old caller one text before result new after =
    ((is_down old.place ≡ true) × FailsAppend old (Some one) text before result new after)
    ⊎ ((is_down old.place ≡ false) × AnswersCaller old caller one new × PrintsText text before result after)

-- What becomes of a scene whose hub answered a call of this caller, where the answer's line is printed.
abbrev pub ConcludesAnswer : {D : Type 0} → List (List ℕ) → Scene D → List ℕ → ℕ → Answer → Event → List ℕ
    → Result (Unit {0}) WorldStop → Scene D → List ℕ → Type 0
ConcludesAnswer names old caller number said one before result new after =
    ((is_down old.place ≡ true) × ((is_stopped old.place ≡ true) × Stops old new
    × OnOk result (after ≡ before ++ codes "stopped\n")
    × IfErr result (λ why. (why ≡ stop.Memory) × (after ≡ before)))
    ⊎ ((is_down old.place ≡ true) × (is_stopped old.place ≡ false) × LetsGoWith old new (one ∷ [])
    × IfErr result (λ why. ((why ≡ stop.JournalFault) × (after ≡ before ++ answer_line names caller number said))
    ⊎ ((why ≡ stop.Memory) × (after ≡ before)))
    × OnOk result ⊥))
    ⊎ ((is_down old.place ≡ false) × AnswersCaller old caller one new
    × OnOk result (after ≡ before ++ answer_line names caller number said)
    × IfErr result (λ why. (why ≡ stop.Memory) × (after ≡ before)))

-- the line of an answer is printed, whole, or not at all where memory ran out
abbrev pub SaysAnswer : List (List ℕ) → List ℕ → ℕ → Answer → List ℕ → Result (Unit {0}) WorldStop → List ℕ → Type 0
SaysAnswer names caller number said before result after =
    OnOk result (after ≡ before ++ answer_line names caller number said)
    × IfErr result (λ why. (why ≡ stop.Memory) × (after ≡ before))

-- a snapshot of a caller is kept, and that it was taken; or there is no memory
abbrev pub PutsSnapshot : {D : Type 0} → Scene D → List ℕ → List ℕ → Snapshot → Result (Unit {0}) WorldStop → Scene D
    → Type 0
PutsSnapshot old named kept snapshot result new =
    (new.limit ≡ old.limit) × (new.place ≡ old.place) × (new.links ≡ old.links)
    × OnOk result ((new.snapshots.taken ≡ taken_with kept snapshot old.snapshots.taken)
    × (new.events.items.items ≡ old.events.items.items ++ event.Begin named snapshot.front ∷ []))
    × IfErr result (λ why. (why ≡ stop.Memory) × (new.events.items.items ≡ old.events.items.items))

-- The hub that is up heard a reply, and that it did is kept.
pub record HearsReply {D : Type 0} (old : Scene D) (device : ℕ) (kind : OpKind) (mark : Mark) (reply : Reply)
    (faults : ℕ) (new : Scene D) : Type 0 where
  pub hub : Hub (Stopping D)
  pub was : old.place ≡ Up hub
  pub place : new.place ≡ Up (with_record hub (hub_reported device reply faults (record_of hub)))
  pub limit : new.limit ≡ old.limit
  pub links : new.links ≡ old.links
  pub snapshots : new.snapshots ≡ old.snapshots
  pub events : new.events.items.items ≡ old.events.items.items ++ event.Report device kind mark faults ∷ []

-- the length of the journal that had no room, where a reconciliation ended by that
abbrev pub full_at : Result (Unit {0}) RecFault → Option ℕ
full_at (Ok done) = None
full_at (Err (fault.LinkFault device count)) = None
full_at (Err fault.DiskFault) = None
full_at (Err (fault.Refused device said)) = None
full_at (Err fault.Memory) = None
full_at (Err (fault.Full len)) = Some len

-- What becomes of a scene in which an append of the end of a reconciliation failed: the stop came, and is printed, or
-- the disk failed, and the run ends.
abbrev pub FailsMending : {D : Type 0} → Scene D → List ℕ → Result (Unit {0}) WorldStop → Scene D → List ℕ → Type 0
FailsMending old before result new after =
    ((is_stopped old.place ≡ true) × Stops old new
    × OnOk result (after ≡ before ++ codes "stopped\n")
    × IfErr result (λ why. (why ≡ stop.Memory) × (after ≡ before)))
    ⊎ ((is_stopped old.place ≡ false)
    × LetsGoWith old new (event.Reconcile (Some (Err fault.DiskFault)) ∷ [])
    × IfErr result (λ why. ((why ≡ stop.JournalFault) ⊎ (why ≡ stop.Memory)) × (after ≡ before)) × OnOk result ⊥)

-- What becomes of a scene in which an append of the end of a reconciliation failed, or had no room.
abbrev pub GivesUpMending : {D : Type 0} → Option ℕ → Scene D → List ℕ → Result (Unit {0}) WorldStop → Scene D
    → List ℕ → Type 0
GivesUpMending None old before result new after = FailsMending old before result new after
GivesUpMending (Some len) old before result new after =
    LetsGo old new × (result ≡ Err (stop.Full len)) × (after ≡ before)

-- What becomes of a scene whose reconciliation ended so: where the hub is down an append failed, and else the end is
-- kept, and its line printed.
abbrev pub ConcludesMending : {D : Type 0} → List (List ℕ) → Scene D → Result (Unit {0}) RecFault → List ℕ
    → Result (Unit {0}) WorldStop → Scene D → List ℕ → Type 0
ConcludesMending names old ended before result new after =
    ((is_down old.place ≡ true) × GivesUpMending (full_at ended) old before result new after)
    ⊎ ((is_down old.place ≡ false)
    × (new.limit ≡ old.limit) × (new.place ≡ old.place) × (new.links ≡ old.links) × (new.snapshots ≡ old.snapshots)
    × (new.events.items.items ≡ old.events.items.items ++ event.Reconcile (Some ended) ∷ [])
    × OnOk result (after ≡ before ++ mended_line names ended)
    × IfErr result (λ why. (why ≡ stop.Memory) × (after ≡ before)))
