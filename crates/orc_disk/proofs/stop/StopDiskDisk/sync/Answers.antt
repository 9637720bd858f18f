use Rattle.std.proofs.Common.{refl, sym, ◌∙◌, rules}
use Rattle.orc_disk.proofs.Inside.{Led-refused-asked, Led-armed}
use Rattle.orc_disk.proofs.stop.StopDiskDisk.sync.Goals as goal

pub returns-then-stopped-clause-performed : goal.returns-then-stopped-clause-performed
returns-then-stopped-clause-performed g c =
    record {
      course = Led-refused-asked g.D.Disk.disk g.met.D.Disk.stays _ _ _ c.ask.ensures (sym c.stopped.ensures ∙ c.if-stopped.true) c.refuse.ensures.state c.refuse.ensures.count;
      cause = search rules;
    }

pub returns-then-comes-clause-performed : goal.returns-then-comes-clause-performed
returns-then-comes-clause-performed g c =
    let last = c.sync_last.ensures in
    let refuse = c.refuse-then-comes.ensures in
    record {
      course = Led-armed g.D.Disk.disk g.met.D.Disk.stays _ _ _ _ _ _ _ c.ask.ensures (sym c.stopped.ensures ∙ c.if-stopped.false) c.comes.ensures.state c.if-comes.true (c.if-comes.ensures.armed.0 refl) last.state last.none last.last refuse.state refuse.count;
      cause = search rules;
    }
