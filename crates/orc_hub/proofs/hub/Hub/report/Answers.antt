use Rattle.std.proofs.Common.{sym, subst}
use Rattle.orc_hub.specs.Keeps.{KeepsHub}
use Rattle.orc_hub.specs.declared.hub.Hub.{Hub}
use Rattle.orc_hub.proofs.hub.Hub.report.Goals as goal

pub returns-clause-kept : goal.returns-clause-kept
returns-clause-kept g c =
    subst (λ (h : Hub g.row.D.Denot). KeepsHub g.D.Disk.disk c.args.self.now h) (sym c.take_report.ensures)
    (c.each_report_keeps.ensures c.args.self.now c.args.device c.args.reply c.args.faults)
