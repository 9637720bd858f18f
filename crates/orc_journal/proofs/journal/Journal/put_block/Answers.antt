-- What the two writes leave is what an append leaves, also where one of them failed.
use Rattle.std.specs.Prelude.{◌+◌, true, false, length}
use Rattle.std.proofs.Common.{refl, sym, subst, arith}
use Rattle.orc_journal.specs.Opened.{OpenJournal, IsReady}
use Rattle.orc_journal.specs.Appends.{HasAppended, LeavesBeforeOrAfter, HasFailed}
use Rattle.orc_journal.proofs.Appending.{has_appended, leaves_either, has_failed}
use Rattle.orc_journal.proofs.journal.Journal.put_block.Goals as goal

pub returns-in-Ok-clause-appended : goal.returns-in-Ok-clause-appended
returns-in-Ok-clause-appended g c entry is =
    let disk = g.D.Disk.disk in
    let at = c.self.inside in
    let new : OpenJournal g.row.D.Denot = record { disk = c.put_gated.new.disk; start = at.start; len = at.len + length c.args.block.now; limit = at.limit; fresh = false; spent = at.spent } in
    subst (λ (j : OpenJournal g.row.D.Denot). HasAppended disk j new entry) c.self.view_is
    (has_appended disk _ c.put_gated.new.disk entry c.args.block.now is (subst (IsReady disk) (sym c.self.view_is) c.requires.ready) (λ small. omega (arith, small))
    c.in-Ok.ensures.done c.in-Ok.ensures.becomes c.in-Ok.ensures.durable c.in-Ok.ensures.course)

pub returns-in-Ok-clause-leaves : goal.returns-in-Ok-clause-leaves
returns-in-Ok-clause-leaves g c entry is =
    let disk = g.D.Disk.disk in
    let at = c.self.inside in
    let len = at.len + length c.args.block.now in
    let new : OpenJournal g.row.D.Denot = record { disk = c.put_gated.new.disk; start = at.start; len = len; limit = at.limit; fresh = false; spent = at.spent } in
    subst (λ (j : OpenJournal g.row.D.Denot). LeavesBeforeOrAfter disk j new entry) c.self.view_is
    (leaves_either disk _ new entry c.args.block.now is (λ small. omega (arith, small)) c.put_gated.ensures.still_tells c.put_gated.ensures.any_moment c.put_gated.ensures.left)

pub returns-in-Err-clause-leaves : goal.returns-in-Err-clause-leaves
returns-in-Err-clause-leaves g c entry is =
    let disk = g.D.Disk.disk in
    let at = c.self.inside in
    let new : OpenJournal g.row.D.Denot = record { disk = c.put_gated.new.disk; start = at.start; len = at.len; limit = at.limit; fresh = at.fresh; spent = true } in
    subst (λ (j : OpenJournal g.row.D.Denot). LeavesBeforeOrAfter disk j new entry) c.self.view_is
    (leaves_either disk _ new entry c.args.block.now is (λ small. omega (arith, small)) c.put_gated.ensures.still_tells c.put_gated.ensures.any_moment c.put_gated.ensures.left)

pub returns-in-Err-clause-failed : goal.returns-in-Err-clause-failed
returns-in-Err-clause-failed g c failed entry is =
    let disk = g.D.Disk.disk in
    let at = c.self.inside in
    let new : OpenJournal g.row.D.Denot = record { disk = c.put_gated.new.disk; start = at.start; len = at.len; limit = at.limit; fresh = at.fresh; spent = true } in
    subst (λ (j : OpenJournal g.row.D.Denot). HasFailed disk j new entry) c.self.view_is
    (has_failed disk _ new entry c.args.block.now is (λ small. omega (arith, small)) c.in-Err.ensures.cause.failed refl c.in-Err.ensures.failed)
