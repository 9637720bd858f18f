use Rattle.std.proofs.Common.{ℕ, List, Bor, subst}
use Rattle.serde_json.specs.View.{view}
use Rattle.serde_json.specs.Find.{as_str}
use Rattle.orc_value.specs.Json.{canon_of_json}
use Rattle.orc_template.specs.Values.{done, then_done, string_done, fitted, lexical, value_done, GivesValue}
use Rattle.orc_template.specs.inside.Machine.{scene}
use Rattle.orc_template.proofs.Forms.{mapped_some, mapped_none, value_string, value_plain}
use Rattle.orc_template.proofs.Handed.{does_so, does_on, does_value, does_then_value}
use Rattle.orc_template.proofs.values.value_text.Goals as goal

pub returns-in_err-text-in-Some-clause-does : goal.returns-in_err-text-in-Some-clause-does
returns-in_err-text-in-Some-clause-does g c =
    let sc = scene (g.V.DataView.viewed c.args.view.now) c.args.here.now in
    let kind = c.args.kind.now in
    let d = view c.args.value.now in
    let old = c.args.reads.now.reads in
    let new = c.fill.new.reads.reads in
    let t = c.in-Some.text.now in
    let is = mapped_some (λ (s : Bor (List ℕ)). s.now) c.as_str.result (as_str d) c.in-Some.text c.as_str.ensures c.in-Some.is in
    does_so (then_done (string_done sc t old) (λ text. done (lexical kind text))) (value_done sc kind d old) new c.from_residual.result (value_string sc kind old d t is)
    (does_on (string_done sc t old) (λ text. done (lexical kind text)) new c.from_residual.result c.in_err-text-in-Some.field-0.0 c.from_residual.ensures.1 c.in_err-text-in-Some.ensures)

pub returns-in_ok-text-in-Some-clause-does : goal.returns-in_ok-text-in-Some-clause-does
returns-in_ok-text-in-Some-clause-does g c =
    let sc = scene (g.V.DataView.viewed c.args.view.now) c.args.here.now in
    let kind = c.args.kind.now in
    let d = view c.args.value.now in
    let old = c.args.reads.now.reads in
    let new = c.fill.new.reads.reads in
    let t = c.in-Some.text.now in
    let is = mapped_some (λ (s : Bor (List ℕ)). s.now) c.as_str.result (as_str d) c.in-Some.text c.as_str.ensures c.in-Some.is in
    does_so (then_done (string_done sc t old) (λ text. done (lexical kind text))) (value_done sc kind d old) new c.lexical.result (value_string sc kind old d t is)
    (does_then_value (string_done sc t old) (lexical kind) new c.in_ok-text-in-Some.text c.lexical.result c.in_ok-text-in-Some.ensures
    (subst (λ (x : List ℕ). GivesValue (lexical kind x) c.lexical.result) c.as_str-in-Some.ensures c.lexical.ensures.value))

pub returns-in-None-clause-does : goal.returns-in-None-clause-does
returns-in-None-clause-does g c =
    let sc = scene (g.V.DataView.viewed c.args.view.now) c.args.here.now in
    let kind = c.args.kind.now in
    let d = view c.args.value.now in
    let old = c.args.reads.now.reads in
    does_so (done (fitted (canon_of_json kind d)) old) (value_done sc kind d old) old c.plain_value.result
    (value_plain sc kind old d (mapped_none (λ (s : Bor (List ℕ)). s.now) c.as_str.result (as_str d) c.as_str.ensures c.in-None.is))
    (does_value (fitted (canon_of_json kind d)) old c.plain_value.result c.plain_value.ensures.value)
