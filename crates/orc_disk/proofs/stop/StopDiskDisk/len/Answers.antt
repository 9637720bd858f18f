use Rattle.std.specs.Prelude.{is_err, []}
use Rattle.std.proofs.Common.{sym, ◌∙◌, rules}
use Rattle.orc_disk.proofs.Inside.{Led-inside, Led-refused}
use Rattle.orc_disk.proofs.stop.StopDiskDisk.len.Goals as goal

pub returns-clause-performed : goal.returns-clause-performed
returns-clause-performed g c =
    record {
      course = Led-inside g.D.Disk.disk (is_err c.len.result) [] _ _ c.len.new.self c.self.view_is (sym c.stopped.ensures ∙ c.if-stopped.false) c.len.ensures.performed.course;
      cause = search rules;
    }

pub returns-then-stopped-clause-performed : goal.returns-then-stopped-clause-performed
returns-then-stopped-clause-performed g c =
    record {
      course = Led-refused g.D.Disk.disk g.met.D.Disk.stays _ _ (sym c.stopped.ensures ∙ c.if-stopped.true) c.refuse.ensures.state c.refuse.ensures.count;
      cause = search rules;
    }
