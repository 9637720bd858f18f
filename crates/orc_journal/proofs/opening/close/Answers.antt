-- The file has its ending gate, or it gets one.
use Rattle.std.specs.Prelude.{length}
use Rattle.std.proofs.Common.{arith, inl, inr, refl}
use Rattle.std.proofs.lemmas.Result.{on_err_weaker}
use Rattle.orc_disk.specs.Crashes.{LeavesAsRead}
use Rattle.orc_journal.proofs.Endings.{gate_there, gate_lacks, disk_gated, disk_put, disk_torn, opened_gated}
use Rattle.orc_journal.proofs.Leaving.{LeavesOpening-refl, LeavesOpening-torn}
use Rattle.orc_journal.proofs.Outcomes.{on_ok_all}
use Rattle.orc_journal.proofs.Operations.{fails_among}
use Rattle.orc_journal.proofs.opening.close.Goals as goal

pub returns-then-len-bytes-clause-stored : goal.returns-then-len-bytes-clause-stored
returns-then-len-bytes-clause-stored g c decls entries journal len =
    let content = g.D.Disk.disk.content c.args.disk.now in
    let opens = disk_gated content c.args.bytes.now decls entries c.requires.whole journal (omega (arith, len, c.if-len-bytes.true)) in
    record {
      gated = opened_gated content decls c.args.bytes.now entries journal.writable opens;
      becomes = opens;
      durable = c.requires.durable;
      counted = len;
      puts = 0;
      put_by = inl (gate_there c.args.bytes.now decls entries journal (omega (arith, len, c.if-len-bytes.true)), refl);
      course = g.met.D.Disk.stays c.args.disk.now;
    }

pub returns-then-len-bytes-clause-leaves : goal.returns-then-len-bytes-clause-leaves
returns-then-len-bytes-clause-leaves g c decls entries journal len =
    LeavesOpening-refl g.D.Disk.disk g.met.D.Disk.only_now decls c.args.disk.now

pub returns-clause-stored : goal.returns-clause-stored
returns-clause-stored g c decls entries journal len =
    let content = g.D.Disk.disk.content in
    on_ok_all {Q = LeavesAsRead (content c.put_synced.new.disk) (g.D.Disk.disk.may_leave c.put_synced.new.disk)} c.put_synced.result
    (λ done durable led.
    let opens = disk_put (content c.args.disk.now) c.args.bytes.now decls entries c.requires.whole journal (omega (arith, len, c.if-len-bytes.false))
    (content c.put_synced.new.disk) done in
    record {
      gated = opened_gated (content c.put_synced.new.disk) decls c.args.bytes.now entries journal.writable opens;
      becomes = opens;
      durable = durable;
      counted = len;
      puts = 2;
      put_by = inr (inr (gate_lacks c.args.bytes.now decls entries journal (omega (arith, len, c.if-len-bytes.false))), refl);
      course = led;
    })
    c.put_synced.ensures.done c.put_synced.ensures.durable c.put_synced.ensures.course

pub returns-clause-leaves : goal.returns-clause-leaves
returns-clause-leaves g c decls entries journal len =
    let disk = g.D.Disk.disk in
    let old = c.args.disk.now in
    let bytes = c.args.bytes.now in
    LeavesOpening-torn disk decls old c.put_synced.new.disk (length bytes) 1 c.put_synced.ensures.still_tells
    (disk_torn (disk.content old) bytes decls entries c.requires.whole journal (omega (arith, len, c.if-len-bytes.false)) (disk.may_leave old) c.requires.durable)
    c.put_synced.ensures.any_moment c.put_synced.ensures.left

pub returns-clause-failed : goal.returns-clause-failed
returns-clause-failed g c =
    let disk = g.D.Disk.disk in
    on_err_weaker c.put_synced.result (fails_among disk 2 c.args.disk.now c.put_synced.new.disk _) c.put_synced.ensures.failed
