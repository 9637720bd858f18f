use Rattle.std.proofs.Common.{◌≡◌, ℕ, List, true, is_some, sym, subst}
use Rattle.orc_datastore.specs.inside.Placed.{noted}
use Rattle.orc_datastore.proofs.Placed.{names_more}
use Rattle.orc_datastore.proofs.living.note_names.Goals as goal

pub loop-service-preserved : goal.loop-service-preserved
loop-service-preserved c =
    let l = c.loop-service in (
      λ q i h. c.note_name.ensures.kept q i (l.invariant.0 q i h),
      names_more l.places c.note_name.new.places c.args.services.now l.service-index c.service-item.result c.loop-service-test.true (sym c.service-item.is)
          c.note_name.ensures.kept l.invariant.1
          (subst (λ (id : List ℕ). is_some (noted c.note_name.new.places id) ≡ true) c.id.ensures c.in_ok-note_name.ensures.name),
    )
