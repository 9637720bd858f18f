use Rattle.std.proofs.Common.{sym, ◌∙◌}
use Rattle.std.proofs.lemmas.Option.{MatchOption-at_some}
use Rattle.orc_journal.proofs.JournalsRead.{none_follows}
use Rattle.orc_journal.proofs.reading.read_entry.Goals as goal

pub returns-then-not-branch : goal.returns-then-not-branch
returns-then-not-branch c = λ known.
    let has = MatchOption-at_some _ _ _ c.in-Some.is c.in_ok-entry.ensures in
    none_follows c.args.entries.now.items c.args.bytes.now c.in-Some.entry c.in-Some.rest.now has
    (sym (c.in_ok-take-in-Some.ensures.fits c.args.entries.now.items known) ∙ c.if-not-branch.true)
