use Rattle.std.proofs.Common.{ℕ, ◌+◌, ◌++◌, List, [], ◌∷◌, drop, length, refl, sym, ap, ◌∙◌}
use Rattle.std.specs.List.{list_all}
use Rattle.std.proofs.lemmas.List.{at_drop_more, length_push}
use Rattle.std.proofs.lemmas.List.Folds.{list_all-append}
use Rattle.std.proofs.lemmas.Bool.{and_from}
use Rattle.serde_json.specs.View.{view}
use Rattle.orc_path.specs.Alphabet.{is_key}
use Rattle.orc_schema_nodes.specs.Schemas.{path_names}
use Rattle.orc_template.specs.Values.{key_done, more_keys, keys_done}
use Rattle.orc_template.specs.inside.Machine.{scene}
use Rattle.orc_template.proofs.Handed.{does_ok, does_on, does_so}
use Rattle.orc_template.proofs.Forms.{keys_begin}
use Rattle.orc_template.proofs.values.key_texts.Goals as goal

pub loop-name-preserved : goal.loop-name-preserved
loop-name-preserved g c =
    let l = c.loop-name in
    let sc = scene (g.V.DataView.viewed c.args.view.now) c.args.here.now in
    let s = c.args.schema.now in
    let path = path_names c.args.list.now in
    let d = view c.args.entry.now in
    let ks = c.args.names.now in
    let later = drop (l.name-index + 1) ks in
    let front = ap (λ (k : List ℕ). more_keys sc s path d l.keys (k ∷ later) l.reads.reads) c.name-item.is ∙ sym (at_drop_more (λ xs. more_keys sc s path d l.keys xs l.reads.reads) ks l.name-index _ c.loop-name-test.true) ∙ l.invariant.0 in (
      ap (λ (keys : List (List ℕ)). more_keys sc s path d keys later c.key_text.new.reads.reads) c.in_ok-push.ensures.ok
          ∙ sym (does_ok (key_done sc s path d c.name-item.result l.reads.reads) (λ t. more_keys sc s path d (l.keys ++ t ∷ []) later) c.key_text.new.reads.reads c.in_ok-text.text c.in_ok-text.ensures.does) ∙ front,
      ap (list_all is_key) c.in_ok-push.ensures.ok ∙ list_all-append is_key l.keys (c.in_ok-text.text ∷ []) ∙ and_from _ _ l.invariant.1 (and_from _ _ c.in_ok-text.ensures.key refl),
      ap length c.in_ok-push.ensures.ok ∙ length_push l.keys c.in_ok-text.text ∙ ap (λ n. n + 1) l.invariant.2,
    )

pub returns-in_err-text-clause-does : goal.returns-in_err-text-clause-does
returns-in_err-text-clause-does g c =
    let l = c.loop-name in
    let sc = scene (g.V.DataView.viewed c.args.view.now) c.args.here.now in
    let s = c.args.schema.now in
    let path = path_names c.args.list.now in
    let d = view c.args.entry.now in
    let ks = c.args.names.now in
    let old = c.args.reads.now.reads in
    let new = c.key_text.new.reads.reads in
    let later = drop (l.name-index + 1) ks in
    let front = ap (λ (k : List ℕ). more_keys sc s path d l.keys (k ∷ later) l.reads.reads) c.name-item.is ∙ sym (at_drop_more (λ xs. more_keys sc s path d l.keys xs l.reads.reads) ks l.name-index _ c.loop-name-test.true) ∙ l.invariant.0 in
    does_so (more_keys sc s path d l.keys (c.name-item.result ∷ later) l.reads.reads) (keys_done sc s path d ks old) new c.from_residual.result (front ∙ keys_begin sc s path d ks old (sym c.if-is_empty.ensures))
    (does_on (key_done sc s path d c.name-item.result l.reads.reads) (λ t. more_keys sc s path d (l.keys ++ t ∷ []) later) new c.from_residual.result c.in_err-text.field-0.0 c.from_residual.ensures.1 c.in_err-text.ensures.does)
