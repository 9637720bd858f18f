use Rattle.std.proofs.Common.{◌≡◌, ℕ, ◌++◌, ◌∷◌, [], List, Some, Bor, sym, ap, ◌∙◌}
use Rattle.std.specs.Option.{option_and_then}
use Rattle.serde_json.specs.View.{view}
use Rattle.serde_json.specs.Find.{get}
use Rattle.serde_json.specs.declared.value.Value.{Value}
use Rattle.orc_value.specs.declared.kind.Kind.{Kind}
use Rattle.orc_schema_nodes.specs.Schemas.{path_names, kind_in, node_at}
use Rattle.orc_json.specs.Findings.{key_kind}
use Rattle.orc_template.specs.Values.{value_done, key_value, key_done}
use Rattle.orc_template.specs.inside.Machine.{scene}
use Rattle.orc_template.proofs.Forms.{mapped_some}
use Rattle.orc_template.proofs.Handed.{does_so}
use Rattle.orc_template.proofs.values.key_text.Goals as goal

pub returns-clause-does : goal.returns-clause-does
returns-clause-does g c =
    let sc = scene (g.V.DataView.viewed c.args.view.now) c.args.here.now in
    let s = c.args.schema.now in
    let path = path_names c.args.list.now in
    let d = view c.args.entry.now in
    let key = c.args.key.now in
    let old = c.args.reads.now.reads in
    let kind = c.in-Some.kind.now in
    let value = view c.in-Some-get.value.now in
    let kind_is : key_kind s path key ≡ Some kind =
    ap (λ (k : List ℕ). option_and_then kind_in (node_at s (path ++ k ∷ []))) (sym c.as_str.ensures)
    ∙ mapped_some (λ (k : Bor Kind). k.now) c.kind_below.result (option_and_then kind_in (node_at s (path ++ c.as_str.result.now ∷ []))) c.in-Some.kind c.kind_below.ensures c.in-Some.is in
    let value_is : get key d ≡ Some value =
    ap (λ (k : List ℕ). get k d) (sym c.as_str-2.ensures)
    ∙ mapped_some (λ (v : Bor Value). view v.now) c.get.result (get c.as_str-2.result.now d) c.in-Some-get.value c.get.ensures c.in-Some-get.is in
    does_so (value_done sc kind value old) (key_done sc s path d key old) c.value_text.new.reads.reads c.value_text.result
    (sym (ap (λ k. key_value sc k (get key d) old) kind_is ∙ ap (λ v. key_value sc (Some kind) v old) value_is)) c.value_text.ensures.does
