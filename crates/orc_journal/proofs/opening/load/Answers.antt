-- The look and the sync went well before the disk was read.
use Rattle.std.specs.Prelude.{◌≡◌, [], ◌∷◌, List, ℕ, IfSome}
use Rattle.std.proofs.Common.{sym, subst, rules, arith}
use Rattle.std.proofs.lemmas.Result.{err_from_is_err_and}
use Rattle.orc_disk.specs.Rows.{read_piece}
use Rattle.orc_journal.specs.Operations.{LedBy}
use Rattle.orc_journal.specs.inside.Steps.{EndsReading, FailsAfter, HeardAll, HasLoaded, HasGivenUp}
use Rattle.orc_journal.specs.declared.fault.OpenFault.TheVariants.{Memory}
use Rattle.orc_journal.proofs.Changes.{Unchanged-trans}
use Rattle.orc_journal.proofs.Operations.{does_more, fails_now, fails_later, fails_weaker}
use Rattle.orc_journal.proofs.Outcomes.{if_ok_both, if_err_given}
use Rattle.orc_journal.proofs.Loading.{loaded_empty, was_synced, loaded_all}
use Rattle.orc_journal.proofs.opening.load.Goals as goal

pub returns-in_err-sync-clause-unchanged : goal.returns-in_err-sync-clause-unchanged
returns-in_err-sync-clause-unchanged g c =
    Unchanged-trans g.D.Disk.disk g.met.D.Disk.counts_now c.args.disk.now c.read_at.new.self c.sync.new.self c.read_at.ensures.unchanged c.sync.ensures.unchanged

pub returns-clause-unchanged : goal.returns-clause-unchanged
returns-clause-unchanged g c =
    let disk = g.D.Disk.disk in
    let now = g.met.D.Disk.counts_now in
    Unchanged-trans disk now c.args.disk.now c.sync.new.self c.read_all.new.disk
    (Unchanged-trans disk now c.args.disk.now c.read_at.new.self c.sync.new.self c.read_at.ensures.unchanged c.sync.ensures.unchanged) c.read_all.ensures.unchanged

pub returns-in_err-sync-clause-failed : goal.returns-in_err-sync-clause-failed
returns-in_err-sync-clause-failed g c =
    let disk = g.D.Disk.disk in
    let mid = c.read_at.new.self in
    let p = err_from_is_err_and c.from_residual-in_err-sync.result c.from_residual-in_err-sync.ensures.1 in
    let look : LedBy disk 0 c.args.disk.now mid = (read_piece 0 c.read_at.new.buf c.in_ok-read_at.field-0, c.in_ok-read_at.ensures.performed.course) in
    rw (p.1, p.2) (λ is. fails_weaker disk 1 2 1 2 c.args.disk.now c.sync.new.self (omega arith) (omega arith)
    (fails_later disk g.met.D.Disk.goes_on 0 1 1 c.args.disk.now mid c.sync.new.self look
    (fails_now disk 1 mid c.sync.new.self (omega arith) (g.met.D.Disk.stays mid) c.in_err-sync.ensures.performed.course)))

pub returns-clause-failed : goal.returns-clause-failed
returns-clause-failed g c =
    let disk = g.D.Disk.disk in
    let old = c.args.disk.now in
    let mid = c.read_at.new.self in
    let synced = c.sync.new.self in
    let new = c.read_all.new.disk in
    let look : LedBy disk 0 old mid = (read_piece 0 c.read_at.new.buf c.in_ok-read_at.field-0, c.in_ok-read_at.ensures.performed.course) in
    let first = does_more disk g.met.D.Disk.goes_on 0 1 old mid synced look ([], c.in_ok-sync.ensures.performed.course) in
    if_err_given c.read_all.result (EndsReading disk synced new) (FailsAfter disk 2 2 old new)
    (λ fault ends is. fails_later disk g.met.D.Disk.goes_on 1 1 1 old synced new first (ends.failed is))
    c.read_all.ensures.ends

pub returns-then-branch-eq0-clause-loaded : goal.returns-then-branch-eq0-clause-loaded
returns-then-branch-eq0-clause-loaded g c =
    let disk = g.D.Disk.disk in
    let old = c.args.disk.now in
    let new = c.read_at.new.self in
    subst (HasLoaded disk old new) (sym c.new.ensures.items)
    (loaded_empty disk old new c.read_at.new.buf c.in_ok-read_at.field-0 (search rules) c.if-branch-eq0.true
    c.in_ok-read_at.ensures.performed.course c.in_ok-read_at.ensures.bytes c.read_at.ensures.unchanged)

pub returns-clause-loaded : goal.returns-clause-loaded
returns-clause-loaded g c =
    let disk = g.D.Disk.disk in
    let synced = c.sync.new.self in
    let was = was_synced disk g.met.D.Disk.goes_on g.met.D.Disk.counts_now c.args.disk.now c.read_at.new.self synced c.read_at.new.buf c.in_ok-read_at.field-0
    (search rules) c.in_ok-read_at.ensures.bound.0 c.if-branch-eq0.false c.in_ok-read_at.ensures.performed.course c.in_ok-sync.ensures.performed.course c.read_at.ensures.unchanged c.sync.ensures.unchanged c.in_ok-sync.ensures.durable in
    if_ok_both c.read_all.result
    (λ bytes. HeardAll disk synced c.read_all.new.disk bytes.items)
    (λ bytes. IfSome (disk.content synced) (λ (file : List ℕ). bytes.items ≡ file))
    (λ bytes. HasLoaded disk c.args.disk.now c.read_all.new.disk bytes.items)
    (λ bytes heard told. loaded_all disk g.met.D.Disk.goes_on c.args.disk.now synced c.read_all.new.disk bytes.items was c.read_all.ensures.unchanged heard told)
    c.read_all.ensures.heard c.read_all.ensures.whole

pub returns-clause-memory : goal.returns-clause-memory
returns-clause-memory g c =
    let disk = g.D.Disk.disk in
    let synced = c.sync.new.self in
    let was = was_synced disk g.met.D.Disk.goes_on g.met.D.Disk.counts_now c.args.disk.now c.read_at.new.self synced c.read_at.new.buf c.in_ok-read_at.field-0
    (search rules) c.in_ok-read_at.ensures.bound.0 c.if-branch-eq0.false c.in_ok-read_at.ensures.performed.course c.in_ok-sync.ensures.performed.course c.read_at.ensures.unchanged c.sync.ensures.unchanged c.in_ok-sync.ensures.durable in
    if_err_given c.read_all.result (EndsReading disk synced c.read_all.new.disk) (λ fault. fault ≡ Memory → HasGivenUp disk c.args.disk.now c.read_all.new.disk)
    (λ fault ends is. record {
      synced = synced;
      looked = was;
      behind = c.read_all.ensures.unchanged;
      course = does_more disk g.met.D.Disk.goes_on 1 0 c.args.disk.now synced c.read_all.new.disk ((0, was.first) ∷ [], was.looked) (ends.other (λ fails. absurd cc));
    })
    c.read_all.ensures.ends
