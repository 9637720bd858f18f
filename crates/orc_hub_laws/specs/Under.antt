-- A world under a real hub, and what becomes of both.
use Rattle.std.specs.Prelude.{◌≡◌, ◌⊎◌, ℕ, Bool, true, false, Option, None, Some, List, [], Err, IsTrue, length}
use Rattle.orc_journal.specs.declared.outcome.Appended.TheVariants as appended
use Rattle.orc_call.specs.declared.answer.RecFault.{RecFault}
use Rattle.orc_decls.specs.declared.declarations.Decls.{Decls}
use Rattle.orc_device.specs.Nodes.{DeviceKind}
use Rattle.orc_disk.specs.Meanings.{DiskMeaning}
use Rattle.orc_disk.specs.Stops.{Stopping, inside}
use Rattle.orc_hub.specs.Hubs.{record_of}
use Rattle.orc_hub.specs.Keeps.{IsHub}
use Rattle.orc_hub.specs.declared.hub.Hub.{Hub}
use Rattle.orc_io.specs.Counts.{Rose}
use Rattle.orc_journal.specs.declared.entry.Entry.{Entry}
use Rattle.orc_print.specs.Printed.{is_end_among}
use Rattle.orc_rules.specs.Events.{Comes, DoesUnderHub, seen_failing}
use Rattle.orc_rules.specs.Hubs.{Hub as HubState}
use Rattle.orc_rules.specs.Journals.{AppendsRow, HoldsEntries, Journal}
use Rattle.orc_rules.specs.Laws.{setting}
use Rattle.orc_rules.specs.Worlds.{Setting, World, stopped, without_hub}
use Rattle.orc_rules.specs.declared.event.Event.{Event}
use Rattle.orc_rules.specs.declared.event.Event.TheVariants as event

-- the journal of a hub, whose entries these are, as a world has it: none is cut
abbrev pub journal_of : {D : Type 0} → Hub (Stopping D) → List Entry → Journal D
journal_of hub entries = record {
  disk = hub.log.journal.disk.inner;
  synced = entries;
  cut = [];
  cut_is_read = false;
  armed = hub.log.journal.disk.op;
  bytes = hub.log.journal.disk.bytes;
}

-- the failure that a reconciliation has met, if one, is of a declared device
abbrev pub NamesMet : Decls → Option (Option RecFault) → Type 0
NamesMet decls mends =
    (met : RecFault) → mends ≡ Some (Some met) → IsTrue (is_end_among (length decls.names) (Some (Err met)))

-- a world with another journal
abbrev pub with_journal : {D : Type 0} → Journal D → World D → World D
with_journal journal world = record world { journal = journal }

module _ {D : Type 0} (here : Setting D) where
  -- The world is that of this hub, which is up: the hub of the world is its record, and the journal of the world is the
  -- hub's, whose disk isn't stopped.
  pub record IsWorldOf (world : World D) (hub : Hub (Stopping D)) : Type 0 where
    pub up : hub.down ≡ false
    pub is : world.hub ≡ Some (record_of hub)
    pub decls : hub.decls ≡ here.decls
    pub journal : world.journal ≡ journal_of hub world.journal.synced
    pub limit : hub.log.journal.limit ≡ here.limit
    pub running : hub.log.journal.disk.stopped ≡ false
    pub met : NamesMet hub.decls hub.mends
    pub sound : IsHub (inside here.disk) hub world.journal.synced

  -- The event came as it was meant, what it appends is there, and the world is that of this hub again: this one, but
  -- for the journal.
  pub record GoesOnUnder (old next : World D) (meant : Event) (new : Hub (Stopping D)) : Type 0 where
    pub journal : Journal D
    pub comes : Comes here
        (record { before = old; meant = meant; seen = Some meant; behind = with_journal journal next })
    pub is : IsWorldOf (with_journal journal next) new

  -- The event came, and no hub is up in the world any more: it is this one, but for the journal, which stands on the
  -- disk that the hub had.
  pub record GoesDown (old next : World D) (meant : Event) (seen : Option Event) (new : Hub (Stopping D)) : Type 0 where
    pub journal : Journal D
    pub comes : Comes here
        (record { before = old; meant = meant; seen = seen; behind = with_journal journal next })
    pub disk : journal.disk ≡ new.log.journal.disk.inner
    pub holds : HoldsEntries here.disk here.decls.text here.limit journal

  -- The armed stop came as an entry of the event was appended, and no more than that is seen; or the disk failed, and has
  -- counted that. The hub is down, and its disk reports which.
  abbrev pub FailsIn : World D → Event → Hub (Stopping D) → Type 0
  FailsIn old meant new = (new.down ≡ true)
      × (((new.log.journal.disk.stopped ≡ true) × GoesDown old (stopped old) meant (Some event.Stop) new)
      ⊎ ((new.log.journal.disk.stopped ≡ false) × GoesDown old (without_hub old) meant (seen_failing meant) new
      × Rose (here.disk.faults old.journal.disk) (here.disk.faults new.log.journal.disk.inner)))

  -- An entry of the event had no room in the journal, which has so many bytes. The hub is down, and nothing is seen.
  abbrev pub LacksRoomFor : World D → Event → ℕ → Hub (Stopping D) → Type 0
  LacksRoomFor old meant len new = (new.down ≡ true) × (gone : GoesDown old (without_hub old) meant None new)
      × (hub : HubState) × (row : List Entry) × (next : World D) × (old.hub ≡ Some hub)
      × DoesUnderHub here old hub meant row next
      × AppendsRow here.disk here.decls.text here.limit old.journal row (appended.Full len) gone.journal

module _ {D : Type 0} (here : Setting D) where
  -- The journal of a world in which no hub is up was to be opened, and wasn't: it stands on this disk now, and nothing
  -- is seen.
  pub record StaysDown (world : World D) (disk : D) : Type 0 where
    pub journal : Journal D
    pub comes : Comes here
        (record { before = world; meant = event.Recover; seen = None; behind = with_journal journal world })
    pub is : journal.disk ≡ disk
    pub holds : HoldsEntries here.disk here.decls.text here.limit journal

-- in every setting over this disk
abbrev pub InEach : {D : Type 0} → DiskMeaning D → (Setting D → Type 0) → Type 0
InEach {D} disk P =
    (decls : Decls) (kinds : ℕ → DeviceKind) (limit : ℕ) (granted : Bool) → P (setting disk decls kinds limit granted)
