use Rattle.orc_rules.specs.Laws.{setting}
use Rattle.orc_hub_laws.proofs.Going.{DiskLaws}
use Rattle.orc_hub_laws.proofs.Admitted.{admit_is_event_so}
use Rattle.orc_hub_laws.proofs.turns.admit_is_event.Goals as goal

pub returns : goal.returns
returns g c =
    let law = g.met.D.Disk in
    let laws : DiskLaws g.D.Disk.disk = record {
      goes_on = law.goes_on;
      counts = law.counts;
      counts_ops = law.counts_ops;
      stays = law.stays;
      counts_now = law.counts_now;
      untold = law.untold_has_no_image;
      only_now = law.only_now;
    } in
    λ decls kinds limit granted. admit_is_event_so (setting g.D.Disk.disk decls kinds limit granted) laws c.turn_away_keeps.ensures c.begin_keeps.ensures
