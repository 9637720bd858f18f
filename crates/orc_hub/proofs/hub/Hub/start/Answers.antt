use Rattle.std.proofs.Common.{◌≡◌, ◌+◌, List, length, take, Err, ap, subst, ◌∙◌, arith}
use Rattle.std.specs.List.{flat_map}
use Rattle.std.proofs.lemmas.Option.{slice_get_within}
use Rattle.orc_journal.specs.Committed.{history_of}
use Rattle.orc_journal.specs.Journals.{gated}
use Rattle.orc_journal.specs.declared.entry.Entry.{Entry}
use Rattle.orc_journal.specs.declared.entry.Entry.TheVariants.{Decide}
use Rattle.orc_hub_parts.specs.Pasts.{IsIllegalDecide}
use Rattle.orc_hub.proofs.AtStart.{offset_of, offset_there}
use Rattle.orc_hub.proofs.hub.Hub.start.Goals as goal

pub offset-at-requires-clause-within : goal.offset-at-requires-clause-within
offset-at-requires-clause-within g c =
    let told = c.in-Err-Illegal.ensures.illegal c.in-Err-Illegal.place c.in-Err-Illegal.n (ap Err c.in-Err-Illegal.field-0-is) in
    let within = slice_get_within c.deref.result.now c.in-Err-Illegal.place (Decide told.0.t) told.0.decide in
    omega (arith, within, c.in-Err-Illegal.place-is, c.deref.ensures.len, c.deref-in-Err-Illegal.ensures.len)

pub returns-in-Err-Illegal-clause-refused : goal.returns-in-Err-Illegal-clause-refused
returns-in-Err-Illegal-clause-refused g c =
    let place = c.in-Err-Illegal.place in
    let entries = c.args.entries.items in
    let told = c.in-Err-Illegal.ensures.illegal place c.in-Err-Illegal.n (ap Err c.in-Err-Illegal.field-0-is) in
    let start = c.args.journal.start in
    let n : c.in-Err-Illegal.n ≡ length (history_of (take place entries)) + 1 =
    told.1 ∙ ap (λ (l : List Entry). length (history_of (take place l)) + 1) c.deref.ensures.value in
    let at : c.offset-at.result ≡ start + length (flat_map gated (take place entries)) + 1 =
    offset_there start c.offset-at.result c.deref-in-Err-Illegal.result.now entries _ place c.offset-at.ensures c.deref-in-Err-Illegal.ensures.value c.in-Err-Illegal.place-is in (
      c.disk_of.ensures,
      (
        place,
        subst (λ (l : List Entry). IsIllegalDecide c.args.decls l place) c.deref.ensures.value told.0,
        c.in-Err-Illegal.n-is ∙ n,
        offset_of start c.offset-at.result c.args.decls.text (take place entries) c.requires.holds.start at,
      ),
    )
