use Rattle.std.proofs.Common.{Some, refl, sym, ap, ◌∙◌}
use Rattle.std.proofs.lemmas.Option.{slice_get_past, slice_get_read}
use Rattle.orc_schema_nodes.proofs.sought.text_at.Goals as goal

pub returns-then-place-texts : goal.returns-then-place-texts
returns-then-place-texts c = ap Some c.as_str.ensures
    ∙ sym (slice_get_read c.args.texts.now _ c.args.place c.index-texts-place.result refl c.if-place-texts.true c.index-texts-place.is)

pub returns : goal.returns
returns c = sym (slice_get_past c.args.texts.now c.args.place c.if-place-texts.false)
