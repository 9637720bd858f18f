use Rattle.std.proofs.Common.{ℕ, List, Some, cond, sym, subst, ap, ◌∙◌}
use Rattle.std.specs.Prelude.{Option}
use Rattle.orc_datastore.specs.inside.Placed.{AreNoted, filled, noted}
use Rattle.orc_decls.specs.Devices.{is_same_text}
use Rattle.orc_datastore.specs.declared.service.Service.{Service}
use Rattle.orc_datastore.proofs.Placed.{filled-more, noted_more}
use Rattle.orc_datastore.proofs.living.put_in.Goals as goal

pub returns-clause-noted : goal.returns-clause-noted
returns-clause-noted c =
    subst (λ (slots : List (Option Service)). AreNoted slots c.note_place.new.places) (sym c.fill_slot.ensures.items)
    (noted_more c.args.slots.now.items c.args.places.now c.note_place.new.places c.args.service c.len.result c.requires.noted
    (c.len.ensures ∙ c.args.slots.now.ok.0) c.requires.fresh
    (λ q. c.note_place.ensures q ∙ ap (λ (id : List ℕ). cond (is_same_text id q) (Some c.len.result) (noted c.args.places.now q)) c.id.ensures))

pub returns-clause-more : goal.returns-clause-more
returns-clause-more c =
    ap (λ (l : List (Option Service)). filled l) c.fill_slot.ensures.items ∙ filled-more c.args.slots.now.items c.args.service
