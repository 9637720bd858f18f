use Rattle.std.proofs.Common.{inl, inr, ap, ◌∙◌}
use Rattle.orc_journal.specs.Views.{unstopped}
use Rattle.orc_scene.proofs.Reopened.{opened_at, refused_at}
use Rattle.orc_scene.proofs.starting.start.Goals as goal

pub start-requires-clause-holds : goal.start-requires-clause-holds
start-requires-clause-holds g c = (opened_at g.D.Disk.disk c.args.decls.text _ c.args.limit (unstopped c.args.disk) c.new.result c.in-Ok.journal c.in-Ok.entries.items c.text.ensures c.new.ensures c.in-Ok.ensures.opened).holds

pub start-requires-clause-ordered : goal.start-requires-clause-ordered
start-requires-clause-ordered g c = (opened_at g.D.Disk.disk c.args.decls.text _ c.args.limit (unstopped c.args.disk) c.new.result c.in-Ok.journal c.in-Ok.entries.items c.text.ensures c.new.ensures c.in-Ok.ensures.opened).ordered

pub returns-in-Ok-start-clause-started : goal.returns-in-Ok-start-clause-started
returns-in-Ok-start-clause-started g c =
    let opened = opened_at g.D.Disk.disk c.args.decls.text _ c.args.limit (unstopped c.args.disk) c.new.result c.in-Ok.journal c.in-Ok.entries.items c.text.ensures c.new.ensures c.in-Ok.ensures.opened in
    record { journal = c.in-Ok.journal; entries = c.in-Ok.entries.items; opened = opened; sound = c.in-Ok-start.ensures.hub; started = c.in-Ok-start.ensures.started }

pub returns-in-Err-start-clause-refused : goal.returns-in-Err-start-clause-refused
returns-in-Err-start-clause-refused g c =
    let opened = opened_at g.D.Disk.disk c.args.decls.text _ c.args.limit (unstopped c.args.disk) c.new.result c.in-Ok.journal c.in-Ok.entries.items c.text.ensures c.new.ensures c.in-Ok.ensures.opened in
    record { cause = inr (c.in-Err-start.fault, c.in-Ok.journal, c.in-Ok.entries.items, c.into_inner.ensures ∙ ap (λ s. s.inner) c.in-Err-start.ensures.refused.0, c.stop_of_start.ensures, opened, c.in-Err-start.ensures.refused.1) }

pub returns-in-Err-clause-refused : goal.returns-in-Err-clause-refused
returns-in-Err-clause-refused g c =
    let refused = refused_at g.D.Disk.disk c.args.decls.text _ c.args.limit (unstopped c.args.disk) c.new.result c.in-Err.disk c.in-Err.fault c.text.ensures c.new.ensures c.in-Err.ensures.refused in
    record { cause = inl (c.in-Err.fault, c.in-Err.disk, c.into_inner-in-Err.ensures, c.stop_of_opening.ensures, refused) }
