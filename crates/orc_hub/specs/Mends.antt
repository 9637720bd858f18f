-- What the beginning and the end of a reconciliation do.
use Rattle.std.specs.Prelude.{◌≡◌, ◌⊎◌, ◌==◌, ℕ, Bool, List, [], ◌∷◌, length, map, Result}
use Rattle.std.specs.declared.option.Option.TheVariants.{None, Some}
use Rattle.std.specs.declared.result.Result.TheVariants.{Ok, Err}
use Rattle.std.specs.List.{filter, list_any, range_with_len}
use Rattle.orc_call.specs.declared.answer.RecFault.{RecFault}
use Rattle.orc_call.specs.declared.answer.RecFault.TheVariants as fault
use Rattle.orc_datastore.specs.States.{tree_due}
use Rattle.orc_disk.specs.Meanings.{DiskMeaning}
use Rattle.orc_journal.specs.declared.entry.Entry.{Entry}
use Rattle.orc_journal.specs.declared.entry.Entry.TheVariants as entry
use Rattle.orc_recover.specs.Menders.{new_mender}
use Rattle.orc_rules.specs.Events.{mender_freed}
use Rattle.orc_rules.specs.declared.duty.Duty.{Duty}
use Rattle.orc_rules.specs.declared.duty.Duty.TheVariants as duty
use Rattle.orc_hub.specs.Writes.{HasBroken, HasNoRoom, HasWritten}
use Rattle.orc_hub.specs.declared.hub.Hub.{Hub}
use Rattle.orc_hub_parts.specs.declared.log.Unsettled.{Unsettled}

-- the Intent of the transaction names the device
abbrev pub names_device : ℕ → Unsettled → Bool
names_device device one = list_any (λ other. other == device) one.devices

-- the unsettled transactions that name a device, each with whether it is decided
abbrev pub resolved_on : ℕ → List Unsettled → List (ℕ × Bool)
resolved_on device unsettled = map (λ one. (one.t, one.is_decided)) (filter (names_device device) unsettled)

module _ {D : Type 0} where
  -- the mender of a device, which has what isn't settled there, and the tree that is due
  abbrev pub begun_on : Hub D → ℕ → Duty
  begun_on hub device =
      duty.Mends (new_mender (resolved_on device hub.log.unsettled) (tree_due hub.state.datastore device))

  -- the hub with a reconciliation begun
  abbrev pub begun_to_mend : Hub D → Hub D
  begun_to_mend hub = record hub {
    duties = map (begun_on hub) (range_with_len 0 (length hub.decls.names));
    mends = Some None;
  }

  -- the hub once a reconciliation is over
  abbrev pub mending_ended : Hub D → Hub D
  mending_ended hub = record hub { duties = map mender_freed hub.duties; mends = None }

-- a Settled of each that isn't settled
abbrev pub settled_ones : List Unsettled → List Entry
settled_ones unsettled = map (λ one. entry.Settled one.t) unsettled

-- the entries that the end of a reconciliation with this result appends, where the hub is still up
abbrev pub row_ended : {D : Type 0} → Result Unit RecFault → Hub D → List Entry
row_ended (Ok done) hub = settled_ones hub.log.unsettled
row_ended (Err met) hub = []

module _ {D : Type 0} (disk : DiskMeaning D) where
  -- what appending the Settled of a transaction does in a reconciliation
  abbrev pub SettlesOne : Hub D → ℕ → Result Unit RecFault → Hub D → Type 0
  SettlesOne old t (Ok done) new = HasWritten disk old (entry.Settled t) new × (new ≡ record old { log = new.log })
  SettlesOne old t (Err fault.DiskFault) new = HasBroken disk old (entry.Settled t) old.askers new
  SettlesOne old t (Err (fault.Full len)) new = HasNoRoom old (entry.Settled t) len new
  SettlesOne old t (Err other) new = ⊥

  -- The Settled of each transaction that isn't settled is appended, in the order of their numbers, until one fails.
  pub data SettlesAll : Hub D → Result Unit RecFault → Hub D → Type 0 where
    none_left : (hub : Hub D) → hub.log.unsettled ≡ [] → SettlesAll hub (Ok tt) hub
    one_less : (old between new : Hub D) (result : Result Unit RecFault) (first : Unsettled) (later : List Unsettled)
        → old.log.unsettled ≡ first ∷ later → SettlesOne old first.t (Ok tt) between
        → SettlesAll between result new → SettlesAll old result new
    fails : (old new : Hub D) (met : RecFault) (first : Unsettled) (later : List Unsettled)
        → old.log.unsettled ≡ first ∷ later → SettlesOne old first.t (Err met) new → SettlesAll old (Err met) new

  -- What `finish_reconcile` does, which ends the reconciliation: where a failure was met it ends by that, and nothing
  -- is appended. Else all is settled, and no transaction is left; or the disk failed, or there is no room, and the hub
  -- is down.
  abbrev pub EndsMending : Hub D → Result Unit RecFault → Hub D → Type 0
  EndsMending old result new =
      ((met : RecFault) × (old.mends ≡ Some (Some met)) × (result ≡ Err met) × (new ≡ mending_ended old))
      ⊎ ((old.mends ≡ Some None)
      × (((result ≡ Ok tt)
      × ((behind : Hub D) × SettlesAll old (Ok tt) behind × (new ≡ mending_ended (record behind { active = [] }))))
      ⊎ ((met : RecFault) × (result ≡ Err met)
      × ((behind : Hub D) × SettlesAll old (Err met) behind × (new ≡ mending_ended behind)))))
