-- Starting over the entries of a journal.
use Rattle.std.specs.Prelude.{◌≡◌, ℕ, ◌+◌, Bool, true, false, List, Some, None, Option, length, map, take}
use Rattle.orc_call.specs.declared.answer.Why.{Why}
use Rattle.orc_call.specs.declared.answer.Why.TheVariants.{Recovered}
use Rattle.orc_decls.specs.declared.declarations.Decls.{Decls}
use Rattle.orc_journal.specs.Committed.{history_of}
use Rattle.orc_journal.specs.Journals.{journal_bytes}
use Rattle.orc_journal.specs.Opened.{OpenJournal}
use Rattle.orc_journal.specs.declared.entry.Entry.{Entry}
use Rattle.orc_rules.specs.Worlds.{declared, new_hub}
use Rattle.orc_rules.specs.declared.duty.Duty.TheVariants.{Free}
use Rattle.orc_hub_parts.specs.Pasts.{IsIllegalDecide}
use Rattle.orc_hub.specs.Hubs.{record_of}
use Rattle.orc_hub.specs.declared.hub.Hub.{Hub}
use Rattle.orc_hub.specs.declared.starting.StartFault.{StartFault}
use Rattle.orc_hub.specs.declared.starting.StartFault.TheVariants as fault

-- Why these entries make no hub: the n-th decided call isn't legal, whose Decide stands at this offset; or memory ran
-- out.
abbrev pub IsStartFault : Decls → List Entry → StartFault → Type 0
IsStartFault decls entries fault.Memory = Unit {0}
IsStartFault decls entries (fault.Damaged n at) =
    (place : ℕ) × IsIllegalDecide decls entries place × (n ≡ length (history_of (take place entries)) + 1)
    × (at ≡ length (journal_bytes decls.text (take place entries)) + 1)

-- what is known of a device as a hub starts: all of it, where the journal is new
abbrev pub known_at_start : Bool → Option Why
known_at_start true = None
known_at_start false = Some Recovered

-- A hub that started: nobody asked, no call waits or is under way, and no operation is due.
pub record HasStarted {D : Type 0} (decls : Decls) (journal : OpenJournal D) (hub : Hub D) : Type 0 where
  pub decls_are : hub.decls ≡ decls
  pub journal_is : hub.log.journal ≡ journal
  pub hub_is : record_of hub
      ≡ new_hub (map (λ device. Free) (declared decls)) (map (λ device. known_at_start journal.fresh) (declared decls))
  pub up : hub.down ≡ false
