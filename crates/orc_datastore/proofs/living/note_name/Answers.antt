use Rattle.std.proofs.Common.{◌∙◌, ap, sym, cond, Some, List, ℕ}
use Rattle.std.specs.Ordering.{is_eq, nat_cmp}
use Rattle.std.specs.Cmp.Lexicographic.{slice_cmp}
use Rattle.orc_datastore.specs.inside.Placed.{noted}
use Rattle.orc_datastore.proofs.Placed.{noted_new}
use Rattle.orc_datastore.proofs.living.note_name.Goals as goal

pub returns-in_ok-insert-in-None-clause-kept : goal.returns-in_ok-insert-in-None-clause-kept
returns-in_ok-insert-in-None-clause-kept c =
    noted_new c.args.places.now c.insert.new.self c.args.id.now 0 (sym c.in-None.ensures.value)
    (λ q. c.in_ok-insert-in-None.ensures.updates.0 q ∙ ap (λ (id : List ℕ). cond (is_eq (slice_cmp nat_cmp id q)) (Some 0) (noted c.args.places.now q)) c.in_ok-copy-in-None.ensures)
