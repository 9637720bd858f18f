use Rattle.std.proofs.Common.{[], ◌∷◌, ◌++◌}
use Rattle.orc_tables.proofs.journals.append_all.Goals as goal

pub loop-entry-preserved : goal.loop-entry-preserved
loop-entry-preserved g c =
    let r = c.loop-entry.invariant in
    (r.0, r.1 ++ c.entry-item.result ∷ [], c.in-Ok.ensures.appended.holds r.0 r.1 r.2)
