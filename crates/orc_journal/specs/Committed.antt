-- The history that the entries of a journal give.
use Rattle.std.specs.Prelude.{ℕ, ◌==◌, List, [], ◌∷◌, ◌++◌, Option, if◌then◌else◌}
use Rattle.std.specs.declared.option.Option.TheVariants.{None, Some}
use Rattle.std.specs.Option.{option_or}
use Rattle.orc_call.specs.declared.call.Call.{Call}
use Rattle.orc_journal.specs.declared.entry.Entry.{Entry}
use Rattle.orc_journal.specs.declared.entry.Entry.TheVariants.{Intent, Decide, Abort, Settled}

-- the call of an entry, where it is an intent of the transaction
abbrev pub call_in : ℕ → Entry → Option Call
call_in t (Intent u call devices) = if u == t then Some call else None
call_in t (Decide u) = None
call_in t (Abort u) = None
call_in t (Settled u) = None

-- the call of the transaction's intent among entries; of two the later one counts
abbrev pub call_of : ℕ → List Entry → Option Call
call_of t [] = None
call_of t (entry ∷ entries) = option_or (call_of t entries) (call_in t entry)

abbrev pub as_calls : Option Call → List Call
as_calls None = []
as_calls (Some call) = call ∷ []

-- what an entry commits after those before it: a Decide the call of its intent
abbrev pub commits : List Entry → Entry → List Call
commits before (Intent t call devices) = []
commits before (Decide t) = as_calls (call_of t before)
commits before (Abort t) = []
commits before (Settled t) = []

abbrev pub history_from : List Entry → List Entry → List Call
history_from before [] = []
history_from before (entry ∷ entries) = commits before entry ++ history_from (before ++ entry ∷ []) entries

-- the calls of decided intents, in the order of their Decide entries
abbrev pub history_of : List Entry → List Call
history_of entries = history_from [] entries
