-- What is noted of each transaction while entries are read.
use Rattle.std.specs.Prelude.{◌≡◌, ℕ, List}
use Rattle.std.specs.Ordering.{nat_cmp}
use Rattle.std.specs.BTreeMap.{get}
use Rattle.orc_journal.specs.Orders.{stage_of}
use Rattle.orc_journal.specs.declared.entry.Entry.{Entry}
use Rattle.orc_journal.specs.declared.order.Stages.{Stages}

-- what is known of each transaction is its stage after these entries
abbrev pub AreStages : Stages → List Entry → Type 0
AreStages stages entries = (t : ℕ) → get nat_cmp stages.by_number t ≡ stage_of t entries
