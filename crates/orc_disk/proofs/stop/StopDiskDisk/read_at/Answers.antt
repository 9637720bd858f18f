use Rattle.std.specs.Prelude.{is_err}
use Rattle.std.proofs.Common.{sym, ◌∙◌, rules}
use Rattle.orc_disk.specs.Rows.{given}
use Rattle.orc_disk.proofs.Inside.{Led-inside, Led-refused}
use Rattle.orc_disk.proofs.stop.StopDiskDisk.read_at.Goals as goal

pub returns-clause-performed : goal.returns-clause-performed
returns-clause-performed g c =
    record {
      course = Led-inside g.D.Disk.disk (is_err c.read_at.result) (given c.args.at c.read_at.new.buf c.read_at.result) _ _ c.read_at.new.self c.self.view_is (sym c.stopped.ensures ∙ c.if-stopped.false) c.read_at.ensures.performed.course;
      cause = search rules;
    }

pub returns-then-stopped-clause-performed : goal.returns-then-stopped-clause-performed
returns-then-stopped-clause-performed g c =
    record {
      course = Led-refused g.D.Disk.disk g.met.D.Disk.stays _ _ (sym c.stopped.ensures ∙ c.if-stopped.true) c.refuse.ensures.state c.refuse.ensures.count;
      cause = search rules;
    }
