-- What the entries of a journal say: the history, each decided transaction's place in it, and the unsettled intents.
use Rattle.std.specs.Prelude.{ℕ, ◌+◌, nat_eq, Option, Some, None, List, [], ◌∷◌, ◌++◌, length}
use Rattle.std.specs.List.{list_any}
use Rattle.orc_call.specs.declared.call.Call.{Call}
use Rattle.orc_journal.specs.declared.entry.Entry.{Entry}
use Rattle.orc_journal.specs.declared.entry.Entry.TheVariants as entry
use Rattle.orc_rules.specs.Cells.{updated_at}
use Rattle.orc_journal.specs.Committed.{as_calls, call_of}
use Rattle.orc_rules.specs.Network.{Plan as Named, Noted}

-- the history, the place of each decided transaction in it, and the unsettled intents
pub record Told : Type 0 where
  pub history : List Call
  pub place : ℕ → Option ℕ
  pub intents : ℕ → Option (Noted Call)

-- a call with the devices of these numbers
abbrev pub named_call : Call → List ℕ → Named Call
named_call call devices = record { call = call; names = λ device. list_any (nat_eq device) devices }

-- with an entry more, after these
abbrev pub told_with : List Entry → Told → Entry → Told
told_with before told (entry.Intent t call devices) =
    record told {
      intents =
          updated_at told.intents t (Some (record { plan = named_call call devices; base = told.history }));
    }
told_with before told (entry.Decide t) = record told {
  history = told.history ++ as_calls (call_of t before);
  place = updated_at told.place t (Some (length told.history + 1));
}
told_with before told (entry.Abort t) = told
told_with before told (entry.Settled t) = record told { intents = updated_at told.intents t None }

-- what these entries say besides, after others
abbrev pub told_from : List Entry → Told → List Entry → Told
told_from before told [] = told
told_from before told (entry ∷ entries) = told_from (before ++ entry ∷ []) (told_with before told entry) entries

-- what the entries of a journal say
abbrev pub told_by : List Entry → Told
told_by entries = told_from [] (record { history = []; place = λ t. None; intents = λ t. None }) entries
