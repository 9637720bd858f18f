use Rattle.std.proofs.Common.{◌≡◌, ◌+◌, ◌<◌, ◌&&◌, not, true, false, ◌∷◌, [], List, length, drop, ap, sym, subst, ◌∙◌}
use Rattle.std.specs.List.{fold, flat_map, list_any}
use Rattle.std.proofs.lemmas.Bool.{and_parts}
use Rattle.std.proofs.lemmas.List.{drop_more}
use Rattle.orc_path.specs.Steps.{PathStep}
use Rattle.orc_schema_nodes.specs.Schemas.{Ascends}
use Rattle.orc_schema_nodes.specs.declared.line.SchemaLine.{SchemaLine}
use Rattle.orc_check.specs.Validity.{Breach, line_breaches, lesser_breach}
use Rattle.orc_check.specs.Found.{place_path, found_breach}
use Rattle.orc_check.specs.inside.Lines.{leads_on, is_before}
use Rattle.orc_check.proofs.Ascending.{none_from, none_broken, ascends_drop, not_not}
use Rattle.orc_check.proofs.places.keep_lines.Goals as goal

pub returns-then-is_past : goal.returns-then-is_past
returns-then-is_past c =
    let s = c.args.schema.now in
    let tree = c.args.tree.now in
    let lines = c.args.lines.now in
    let place = place_path c.args.place in
    let i = c.loop-line.line-index in
    let line = c.line-item.result in
    let within : i < length lines = c.loop-line-test.true in
    let parts : drop i lines ≡ line ∷ drop (i + 1) lines =
    drop_more lines i line within ∙ ap (λ (x : SchemaLine). x ∷ drop (i + 1) lines) (sym c.line-item.is) in
    let past : (not (is_before place line) && not (leads_on place line)) ≡ true =
    ap (λ (p : List PathStep). not (is_before p line) && not (leads_on p line)) (sym c.place_steps-steps.ensures) ∙ sym c.is_past.ensures ∙ c.if-is_past.true in
    let both = and_parts (not (is_before place line)) (not (leads_on place line)) past in
    let none : list_any (leads_on place) (line ∷ drop (i + 1) lines) ≡ false =
    none_from place line (drop (i + 1) lines) (subst (λ (ls : List SchemaLine). Ascends ls) parts (ascends_drop i lines c.requires)) (not_not _ both.0) (not_not _ both.1) in
    let empty : flat_map (line_breaches s tree place) (drop i lines) ≡ [] =
    ap (flat_map (line_breaches s tree place)) parts ∙ none_broken s tree place (line ∷ drop (i + 1) lines) none in
    sym (ap (λ (bs : List Breach). fold lesser_breach (found_breach c.loop-line.kept) bs) empty) ∙ c.loop-line.invariant
