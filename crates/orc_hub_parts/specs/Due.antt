-- What is due on a device, and for a transaction.
use Rattle.std.specs.Prelude.{◌≡◌, ℕ, true, IsTrue, List}
use Rattle.orc_recover.specs.Menders.{is_editing}
use Rattle.orc_rules.specs.Due.{is_entry_due}
use Rattle.orc_rules.specs.declared.duty.Duty.{Duty}
use Rattle.orc_rules.specs.declared.duty.Duty.TheVariants.{Free, Works, Mends}
use Rattle.orc_rules.specs.declared.transaction.Transaction.{Transaction}
use Rattle.orc_worker.specs.declared.stage.Stage.TheVariants.{Editing}

-- an edit is due, a copy of which takes memory
abbrev pub WantsEdit : Duty → Type 0
WantsEdit Free = ⊥
WantsEdit (Works worker) = worker.stage ≡ Editing
WantsEdit (Mends mender) = IsTrue (is_editing mender.stage)

-- something is due for a transaction, and this is its number
abbrev pub IsDueAs : List Duty → ℕ → Transaction → Type 0
IsDueAs duties t it = (it.t ≡ t) × (is_entry_due duties it ≡ true)
