-- What the entries from the place on have, and what those before it have, is what all have.
use Rattle.std.specs.Prelude.{List, length}
use Rattle.std.specs.List.{flat_map}
use Rattle.std.proofs.Common.{ap, arith}
use Rattle.std.proofs.lemmas.List.{take_rest}
use Rattle.orc_journal.specs.Journals.{gated}
use Rattle.orc_journal.specs.Opened.{OpenJournal}
use Rattle.orc_journal.specs.declared.entry.Entry.{Entry}
use Rattle.orc_journal.proofs.Counts.{length_halves}
use Rattle.orc_journal.proofs.journal.Journal.offset.Goals as goal

pub overflow_sub-result : goal.overflow_sub-result
overflow_sub-result g c =
    let halves = length_halves gated c.args.entries.now c.args.index in
    let rest = ap (λ (l : List Entry). length (flat_map gated l)) (take_rest c.args.entries.now c.args.index) in
    let len = ap (λ (j : OpenJournal g.row.D.Denot). j.len) c.self.view_is in
    omega (arith, halves, rest, len, c.requires.whole)

pub returns : goal.returns
returns g c =
    let halves = length_halves gated c.args.entries.now c.args.index in
    let rest = ap (λ (l : List Entry). length (flat_map gated l)) (take_rest c.args.entries.now c.args.index) in
    let len = ap (λ (j : OpenJournal g.row.D.Denot). j.len) c.self.view_is in
    omega (arith, halves, rest, len, c.requires.whole)
