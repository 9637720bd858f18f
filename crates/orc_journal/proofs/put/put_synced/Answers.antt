-- A crash before each operation and after it leaves what one before them would have left, torn by the write.
use Rattle.std.specs.Prelude.{length}
use Rattle.std.proofs.Common.{◌∙◌, arith}
use Rattle.std.proofs.lemmas.Option.{IfSome_then}
use Rattle.std.proofs.lemmas.Result.{on_err_weaker}
use Rattle.orc_disk.proofs.Torn.{Torn-refl}
use Rattle.orc_disk.proofs.Courses.{one_more-Ok, FailsAmong-first}
use Rattle.orc_disk.proofs.Moments.{started, goes_on}
use Rattle.orc_journal.specs.inside.Blocks.{IsTornFrom, IsPutShort}
use Rattle.orc_journal.proofs.Outcomes.{on_err_anyway, one_more_failed}
use Rattle.orc_journal.proofs.put.put_synced.Goals as goal

pub returns-in_err-write_at-clause-any_moment : goal.returns-in_err-write_at-clause-any_moment
returns-in_err-write_at-clause-any_moment g c =
    let disk = g.D.Disk.disk in
    let old = c.args.disk.now in
    let P = IsTornFrom (disk.may_leave old) c.args.at (length c.args.bytes.now) in
    let begun = started disk old P (λ file left. (file, g.met.D.Disk.only_now old file left, Torn-refl c.args.at (length c.args.bytes.now) file)) in
    goes_on disk old old c.write_at.new.self P begun c.write_at.ensures.time c.write_at.ensures.crash

pub returns-in_err-write_at-clause-left : goal.returns-in_err-write_at-clause-left
returns-in_err-write_at-clause-left g c =
    IfSome_then (g.D.Disk.disk.content c.write_at.new.self) (g.met.D.Disk.reads_as_image c.write_at.new.self) c.write_at.ensures.crash

pub returns-clause-any_moment : goal.returns-clause-any_moment
returns-clause-any_moment g c =
    let disk = g.D.Disk.disk in
    let old = c.args.disk.now in
    let mid = c.write_at.new.self in
    let new = c.sync.new.self in
    let P = IsTornFrom (disk.may_leave old) c.args.at (length c.args.bytes.now) in
    let torn = c.in_ok-write_at.ensures.crash in
    let begun = started disk old P (λ file left. (file, g.met.D.Disk.only_now old file left, Torn-refl c.args.at (length c.args.bytes.now) file)) in
    let wrote = goes_on disk old old mid P begun c.in_ok-write_at.ensures.time torn in
    goes_on disk old mid new P wrote c.sync.ensures.unchanged.time (λ file left. torn file (c.sync.ensures.unchanged.crash file left))

pub returns-clause-left : goal.returns-clause-left
returns-clause-left g c =
    IfSome_then (g.D.Disk.disk.content c.sync.new.self) (g.met.D.Disk.reads_as_image c.sync.new.self)
    (λ file left. c.in_ok-write_at.ensures.crash file (c.sync.ensures.unchanged.crash file left))

pub returns-clause-course : goal.returns-clause-course
returns-clause-course g c =
    one_more-Ok g.D.Disk.disk g.met.D.Disk.goes_on c.sync.result 1 1 c.args.disk.now c.write_at.new.self c.sync.new.self
    c.in_ok-write_at.ensures.performed.course c.sync.ensures.performed.course

pub returns-in_err-write_at-clause-failed : goal.returns-in_err-write_at-clause-failed
returns-in_err-write_at-clause-failed g c =
    let old = c.args.disk.now in
    let new = c.write_at.new.self in
    on_err_anyway c.from_residual.result
    (FailsAmong-first g.D.Disk.disk 2 old new
    (IsPutShort g.D.Disk.disk c.args.at c.args.bytes.now old new)
    (omega arith) (g.met.D.Disk.stays old) c.in_err-write_at.ensures.performed.course
    (record { cut = λ none. c.in_err-write_at.ensures.cut; put = λ one. absurd (omega (arith, one)); syncing = λ one. absurd (omega (arith, one)) }))

pub returns-clause-failed : goal.returns-clause-failed
returns-clause-failed g c =
    let old = c.args.disk.now in
    let new = c.sync.new.self in
    one_more_failed g.D.Disk.disk c.sync.result 1 old c.write_at.new.self new
    (IsPutShort g.D.Disk.disk c.args.at c.args.bytes.now old new)
    c.in_ok-write_at.ensures.performed.course c.sync.ensures.performed.course
    (on_err_weaker c.sync.result
    (λ cut. record {
      cut = λ none. absurd (omega (arith, none));
      put = λ one. c.sync.ensures.unchanged.same ∙ c.in_ok-write_at.ensures.done;
      syncing = λ one. record { before = c.write_at.new.self; ran = c.in_ok-write_at.ensures.performed.course; cut = cut };
    })
    c.sync.ensures.cut)
