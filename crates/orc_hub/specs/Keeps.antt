-- What is kept of the hub by each call.
use Rattle.std.specs.Prelude.{◌≡◌, ℕ, true, false, List, Option, ◌++◌, All, length, slice_get}
use Rattle.std.specs.declared.option.Option.TheVariants.{Some}
use Rattle.orc_call.specs.declared.answer.RecFault.{RecFault}
use Rattle.orc_call.specs.declared.call.Call.{Call}
use Rattle.orc_decls.specs.Declarations.{AreDecls}
use Rattle.orc_disk.specs.Meanings.{DiskMeaning}
use Rattle.orc_journal.specs.Committed.{history_of}
use Rattle.orc_journal.specs.declared.entry.Entry.{Entry}
use Rattle.orc_recover.specs.Menders.{MenderState}
use Rattle.orc_rules.specs.Kept.{EachPreparing, HubKept}
use Rattle.orc_rules.specs.declared.asked.Asked.{Asked}
use Rattle.orc_rules.specs.declared.duty.Duty.{Duty}
use Rattle.orc_rules.specs.declared.duty.Duty.TheVariants.{Mends}
use Rattle.orc_rules.specs.declared.transaction.Phase.TheVariants.{Left}
use Rattle.orc_rules.specs.declared.transaction.Transaction.{Transaction}
use Rattle.orc_rules.specs.declared.transaction.Waiting.{Waiting}
use Rattle.orc_state.specs.States.{IsStateUnder}
use Rattle.orc_hub_parts.specs.Logs.{IsLog}
use Rattle.orc_hub_parts.specs.Numbered.{AreNumbers, is_given}
use Rattle.orc_hub.specs.declared.hub.Hub.{Hub}

-- the open call of the one who asked at this place has this caller and number
pub record IsAsker (asked : List Asked) (place : ℕ) (call : Call) : Type 0 where
  pub slot : Asked
  pub there : slice_get asked place ≡ Some slot
  pub is_open : slot.is_open ≡ true
  pub caller : slot.caller ≡ call.caller
  pub number : slot.number ≡ call.number

-- each call that waits, and each under way without its decision, has its open slot
pub record AreAskers (asked : List Asked) (waiting : List Waiting) (active : List Transaction) : Type 0 where
  pub waits : All (λ one. IsAsker asked one.asker one.call) waiting
  pub prepares : EachPreparing (λ it. IsAsker asked it.asker it.call) active

-- a mender is on the device, which may have ended
abbrev pub HasMender : Duty → Type 0
HasMender on = (mender : MenderState) × (on ≡ Mends mender)

-- In a reconciliation each device has its mender, and each transaction is left to it.
pub record AreLeft (active : List Transaction) (duties : List Duty) : Type 0 where
  pub left : All (λ it. it.phase ≡ Left) active
  pub mends : All HasMender duties

module _ {D : Type 0} (disk : DiskMeaning D) where
  -- What is kept of a hub that is up, over the entries of its journal: their history is the state's, and is legal; each
  -- call under way that isn't decided would be planned today as it was, and fits with the others; who has an open call
  -- is known; and in a reconciliation nothing is done but that.
  pub record IsHub (hub : Hub D) (entries : List Entry) : Type 0 where
    pub decls : AreDecls hub.decls
    pub log : IsLog disk hub.log hub.decls.text entries
    pub history : history_of entries ≡ hub.state.history
    pub state : IsStateUnder hub.decls hub.state
    pub kept : HubKept hub.decls entries hub.state.history hub.active hub.waiting (is_given hub.numbers)
    pub numbers : AreNumbers hub.numbers entries
    pub askers : AreAskers hub.askers hub.waiting hub.active
    pub duties : length hub.duties ≡ length hub.decls.names
    pub stale : length hub.stale ≡ length hub.decls.names
    pub mending : (met : Option RecFault) → hub.mends ≡ Some met → AreLeft hub.active hub.duties

  -- a hub is sound: where it is up, it is one over some entries
  abbrev pub IsSoundHub : Hub D → Type 0
  IsSoundHub hub = hub.down ≡ false → (entries : List Entry) × IsHub hub entries

  -- What a call keeps: the declarations; what is kept of a hub that is up; that it is down; and, where it is still up,
  -- each call of the history.
  pub record KeepsHub (old new : Hub D) : Type 0 where
    pub decls : new.decls ≡ old.decls
    pub sound : IsSoundHub old → IsSoundHub new
    pub still_down : old.down ≡ true → new.down ≡ true
    pub history : new.down ≡ false → (more : List Call) × (new.state.history ≡ old.state.history ++ more)
