-- The past that the entries of a journal report, for a hub that starts.
use Rattle.std.specs.Prelude.{◌≡◌, ℕ, ◌+◌, List, Some, take, slice_get}
use Rattle.orc_datastore.specs.Legal.{IsLegal}
use Rattle.orc_decls.specs.declared.declarations.Decls.{Decls}
use Rattle.orc_journal.specs.Committed.{history_of}
use Rattle.orc_journal.specs.declared.entry.Entry.{Entry}
use Rattle.orc_journal.specs.declared.entry.Entry.TheVariants.{Decide}
use Rattle.orc_state.specs.States.{IsStateUnder}
use Rattle.orc_hub_parts.specs.Numbered.{AreNumbers}
use Rattle.orc_hub_parts.specs.Logs.{unsettled_by}
use Rattle.orc_hub_parts.specs.declared.past.Past.{Past}

-- the past of these entries: no number was given since
pub record IsPast (decls : Decls) (past : Past) (entries : List Entry) : Type 0 where
  pub numbers : AreNumbers past.numbers entries
  pub next : past.numbers.next ≡ 1
  pub unsettled : past.unsettled ≡ unsettled_by entries
  pub history : past.state.history ≡ history_of entries
  pub state : IsStateUnder decls past.state

-- the entry at this place is a Decide that makes the history illegal, which is legal without it
pub record IsIllegalDecide (decls : Decls) (entries : List Entry) (place : ℕ) : Type 0 where
  pub t : ℕ
  pub decide : slice_get entries place ≡ Some (Decide t)
  pub before : IsLegal decls (history_of (take place entries))
  pub illegal : IsLegal decls (history_of (take (place + 1) entries)) → ⊥
