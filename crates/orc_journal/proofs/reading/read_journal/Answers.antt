use Rattle.std.proofs.lemmas.Option.{MatchOption-at_some, MatchOption-at_none}
use Rattle.orc_journal.proofs.JournalsRead.{read_more, damaged}
use Rattle.orc_journal.proofs.reading.read_journal.Goals as goal

pub loop-behind-preserved : goal.loop-behind-preserved
loop-behind-preserved c =
    let l = c.loop-behind in
    let next = MatchOption-at_some _ _ _ c.in-Some-2.is (c.in_ok-after.ensures l.invariant.known) in
    read_more c.args.bytes.now c.args.decls.now l.entries.items l.rest.now c.in-Some.behind.now l.stages
    c.read_entry.new.entries.items c.in-Some-2.after.now c.read_entry.new.stages l.invariant c.in-Some.ensures next

pub returns-in-None-clause-refused : goal.returns-in-None-clause-refused
returns-in-None-clause-refused c =
    let l = c.loop-behind in
    let none = MatchOption-at_none _ _ c.in-None.is (c.in_ok-after.ensures l.invariant.known) in
    damaged c.args.bytes.now c.args.decls.now l.entries.items l.rest.now c.in-Some.behind.now l.stages l.invariant c.in-Some.ensures none
