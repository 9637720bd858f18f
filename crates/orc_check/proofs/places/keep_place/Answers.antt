use Rattle.std.proofs.Common.{◌≡◌, ◌-◌, ◌++◌, [], List, length, take, drop, ap, sym, subst, ◌∙◌}
use Rattle.std.specs.List.{fold, flat_map, list_any}
use Rattle.std.proofs.lemmas.Grind.{flat_map-append}
use Rattle.std.proofs.lemmas.List.{take_rest, take-append-drop}
use Rattle.orc_path.specs.Steps.{PathStep}
use Rattle.orc_schema_nodes.specs.Schemas.{Ascends}
use Rattle.orc_schema_nodes.specs.declared.line.SchemaLine.{SchemaLine}
use Rattle.orc_check.specs.Validity.{Breach, line_breaches, lesser_breach}
use Rattle.orc_check.specs.Found.{place_path, found_breach}
use Rattle.orc_check.specs.inside.Lines.{leads_on}
use Rattle.orc_check.proofs.Ascending.{none_broken, ascends_drop}
use Rattle.orc_check.proofs.places.keep_place.Goals as goal

pub first_line-at-requires : goal.first_line-at-requires
first_line-at-requires c = subst (λ (ls : List SchemaLine). Ascends ls) (sym c.lines-lines.ensures.lines) c.lines-lines.ensures.order

pub keep_lines-requires : goal.keep_lines-requires
keep_lines-requires c =
    let lines = c.lines-lines.result.now in
    let at = c.first_line-at.result in
    subst (λ (ls : List SchemaLine). Ascends ls) (sym (take_rest lines at))
    (ascends_drop at lines (subst (λ (ls : List SchemaLine). Ascends ls) (sym c.lines-lines.ensures.lines) c.lines-lines.ensures.order))

pub returns : goal.returns
returns c =
    let s = c.args.schema.now in
    let tree = c.args.tree.now in
    let place = place_path c.args.place in
    let lines = c.lines-lines.result.now in
    let at = c.first_line-at.result in
    let none : flat_map (line_breaches s tree place) (take at lines) ≡ [] =
    none_broken s tree place (take at lines)
    (ap (λ (p : List PathStep). list_any (leads_on p) (take at lines)) (sym c.place_steps.ensures) ∙ c.first_line-at.ensures.before) in
    let whole : flat_map (line_breaches s tree place) (take (length lines - at) (drop at lines)) ≡ flat_map (line_breaches s tree place) s.lines =
    ap (flat_map (line_breaches s tree place)) (take_rest lines at)
    ∙ ap (λ (bs : List Breach). bs ++ flat_map (line_breaches s tree place) (drop at lines)) (sym none)
    ∙ sym (flat_map-append (line_breaches s tree place) (take at lines) (drop at lines))
    ∙ ap (flat_map (line_breaches s tree place)) (take-append-drop at lines ∙ c.lines-lines.ensures.lines) in
    c.keep_lines.ensures ∙ ap (λ (bs : List Breach). fold lesser_breach (found_breach c.args.best) bs) whole
