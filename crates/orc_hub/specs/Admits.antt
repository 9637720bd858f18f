-- What `admit` does.
use Rattle.std.specs.Prelude.{◌≡◌, ◌⊎◌, ◌-◌, ℕ, List, ◌∷◌, [], ◌++◌, length, take, slice_get}
use Rattle.std.specs.declared.option.Option.TheVariants.{None, Some}
use Rattle.orc_call.specs.declared.answer.Answer.{Answer}
use Rattle.orc_call.specs.declared.answer.Answer.TheVariants as answer
use Rattle.orc_call.specs.Encoding.{IsCall}
use Rattle.orc_disk.specs.Meanings.{DiskMeaning}
use Rattle.orc_journal.specs.Entries.{AreDevices}
use Rattle.orc_journal.specs.declared.entry.Entry.{Entry}
use Rattle.orc_rules.specs.Admissions.{IsTurnedAway, Passes, transaction_begun, intent_entry, started, without}
use Rattle.orc_rules.specs.Asked.{answered_at}
use Rattle.orc_rules.specs.Fits.{FitsNow, IsFirstFit, first_stale}
use Rattle.orc_rules.specs.Hubs.{answered}
use Rattle.orc_rules.specs.declared.transaction.Transaction.{Transaction}
use Rattle.orc_rules.specs.declared.transaction.Waiting.{Waiting}
use Rattle.orc_tree.specs.declared.change.ChangeSet.{ChangeSet}
use Rattle.orc_hub.specs.Hubs.{record_of, with_record}
use Rattle.orc_hub.specs.Writes.{HasBroken, HasNoRoom, HasWritten}
use Rattle.orc_hub.specs.declared.hub.Admit.{Admit}
use Rattle.orc_hub.specs.declared.hub.Admit.TheVariants as admit
use Rattle.orc_hub.specs.declared.hub.Hub.{Hub}

-- none fits
abbrev pub NoneFits : List Transaction → List Waiting → Type 0
NoneFits active waiting = (place : ℕ) (one : Waiting) → FitsNow active waiting place one → ⊥

-- the first waiting call that fits is that of the transaction of this number
pub record IsNextToAdmit (active : List Transaction) (waiting : List Waiting) (t : ℕ) : Type 0 where
  pub place : ℕ
  pub it : Waiting
  pub there : slice_get waiting place ≡ Some it
  pub first : IsFirstFit active waiting place
  pub number : it.t ≡ t

-- the caller and number of a call that waits
abbrev pub waiting_name : Waiting → List ℕ × ℕ
waiting_name it = (it.call.caller, it.call.number)

-- what its Intent says has room in the fields of an entry
abbrev pub HasFields : Waiting → Type 0
HasFields it = IsCall it.call × AreDevices it.plan.held.devices

-- a call of this caller and number isn't admitted: the one who asked at this place is answered; nothing else changes
abbrev pub TurnsAway : {D : Type 0} → Hub D → ℕ → (List ℕ × ℕ) → Answer → Admit → Hub D → Type 0
TurnsAway old asker name due (admit.Answered caller number given) new =
    ((caller, number) ≡ name) × (given ≡ due) × (new ≡ with_record old (answered asker given (record_of old)))
TurnsAway old asker name due (admit.Admitted other) new = ⊥
TurnsAway old asker name due (admit.Full len) new = ⊥
TurnsAway old asker name due admit.Nothing new = ⊥

-- the entries that an admission with this result appends
abbrev pub row_by : Admit → Waiting → List Entry
row_by (admit.Admitted t) it = intent_entry it ∷ []
row_by other it = []

module _ {D : Type 0} (disk : DiskMeaning D) where
  -- what appending this Intent does, of a transaction that was noted already after the others
  abbrev pub WritesIntentOf : Hub D → ℕ → ℕ → (List ℕ × ℕ) → Entry → List (ℕ × ChangeSet) → Admit → Hub D → Type 0
  WritesIntentOf old t asker name intent sets (admit.Admitted given) new =
      (given ≡ t) × HasWritten disk old intent new
      × (new ≡ record old { log = new.log; duties = started t sets old.duties })
  WritesIntentOf old t asker name intent sets (admit.Answered caller number given) new =
      ((caller, number) ≡ name) × (((given ≡ answer.Memory)
      × (new ≡ with_record (record old { active = take (length old.active - 1) old.active })
      (answered asker given (record_of (record old { active = take (length old.active - 1) old.active })))))
      ⊎ ((given ≡ answer.JournalFault) × HasBroken disk old intent (answered_at asker given old.askers) new))
  WritesIntentOf old t asker name intent sets (admit.Full len) new = HasNoRoom old intent len new
  WritesIntentOf old t asker name intent sets admit.Nothing new = ⊥

  -- What appending the Intent of a call that was waiting does: it is under way, and its workers begin; or its caller is
  -- answered that memory ran out, and nothing else changes; or the disk failed, or there is no room, and the hub is
  -- down.
  abbrev pub WritesIntent : Hub D → Waiting → List (ℕ × ChangeSet) → Admit → Hub D → Type 0
  WritesIntent old it sets (admit.Admitted given) new =
      (given ≡ it.t) × HasWritten disk old (intent_entry it) new
      × (new ≡ record old {
        log = new.log;
        active = old.active ++ transaction_begun (length old.state.history) it ∷ [];
        duties = started it.t sets old.duties;
      })
  WritesIntent old it sets (admit.Answered caller number given) new =
      ((caller, number) ≡ waiting_name it) × (((given ≡ answer.Memory)
      × (new ≡ with_record old (answered it.asker given (record_of old))))
      ⊎ ((given ≡ answer.JournalFault)
      × HasBroken disk old (intent_entry it) (answered_at it.asker given old.askers) new))
  WritesIntent old it sets (admit.Full len) new = HasNoRoom old (intent_entry it) len new
  WritesIntent old it sets admit.Nothing new = ⊥

  -- nothing refuses it, none of its devices is stale, and its Intent is appended
  pub record Begins (old : Hub D) (it : Waiting) (result : Admit) (new : Hub D) : Type 0 where
    pub sets : List (ℕ × ChangeSet)
    pub passes : Passes old.decls old.state.history it.call it.plan sets
    pub known : first_stale it.plan.held.devices old.stale ≡ None
    pub written : WritesIntent old it sets result new

  -- a waiting call isn't admitted, for this cause
  pub record IsNotAdmitted (old : Hub D) (it : Waiting) (result : Admit) (new : Hub D) : Type 0 where
    pub given : Answer
    pub cause : IsTurnedAway old.decls old.state.history (record_of old) it given
    pub turned : TurnsAway old it.asker (waiting_name it) given result new

  -- what `admit` does with a call that it took out of the queue
  abbrev pub AdmitsOne : Hub D → Waiting → Admit → Hub D → Type 0
  AdmitsOne old it result new = IsNotAdmitted old it result new ⊎ Begins old it result new

  -- What `admit` does: nothing where no call fits; else it takes the first that does out of the queue, and admits or
  -- answers it.
  abbrev pub Admits : Hub D → Admit → Hub D → Type 0
  Admits old result new =
      (NoneFits old.active old.waiting × (result ≡ admit.Nothing) × (new ≡ old))
      ⊎ ((place : ℕ) × (it : Waiting) × (slice_get old.waiting place ≡ Some it)
      × IsFirstFit old.active old.waiting place
      × AdmitsOne (record old { waiting = without place old.waiting }) it result new)
