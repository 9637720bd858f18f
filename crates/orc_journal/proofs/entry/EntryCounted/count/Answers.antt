use Rattle.std.specs.Prelude.{length}
use Rattle.std.proofs.Common.{ap, arith}
use Rattle.orc_journal.specs.Journals.{gated}
use Rattle.orc_journal.specs.declared.entry.Entry.{Entry}
use Rattle.orc_journal.proofs.Counts.{length_intent}
use Rattle.orc_journal.proofs.entry.EntryCounted.count.Goals as goal

pub returns-in-Intent : goal.returns-in-Intent
returns-in-Intent c =
    let is = ap (λ (entry : Entry). length (gated entry)) c.in-Intent.is in
    omega (arith, is, length_intent c.in-Intent.t c.in-Intent.call c.in-Intent.devices)
