use Rattle.std.proofs.Common.{◌≡◌, ◌+◌, ◌<◌, ◌&&◌, true, false, length, take, drop, sym, ap, ◌∙◌, arith}
use Rattle.orc_schema_nodes.specs.Schemas.{node_at}
use Rattle.orc_check.specs.Validity.{is_container, goes_down}
use Rattle.orc_check.proofs.Reached.{down_last, down_next}
use Rattle.orc_check.proofs.reach.+goes_down.Goals as goal

pub returns-then-above-names-2 : goal.returns-then-above-names-2
returns-then-above-names-2 t c =
    let last : c.args.above + 1 ≡ length c.args.names.now = omega arith in
    sym (down_last c.args.schema.now c.args.names.now c.args.above last)

pub returns-then-is_container : goal.returns-then-is_container
returns-then-is_container t c =
    let s = c.args.schema.now in
    let names = c.args.names.now in
    let next = c.args.above + 1 in
    let within : next < length names = omega arith in
    let is : is_container (node_at s (take next names)) ≡ true = ap is_container (sym c.node_of_names.ensures) ∙ sym c.is_container.ensures ∙ c.if-is_container.true in
    c.goes_down.ensures ∙ ap (λ b. b && goes_down s (take next names) (drop next names)) (sym is) ∙ sym (down_next s names c.args.above within)

pub returns-else-is_container : goal.returns-else-is_container
returns-else-is_container t c =
    let s = c.args.schema.now in
    let names = c.args.names.now in
    let next = c.args.above + 1 in
    let within : next < length names = omega arith in
    let is : is_container (node_at s (take next names)) ≡ false = ap is_container (sym c.node_of_names.ensures) ∙ sym c.is_container.ensures ∙ c.if-is_container.false in
    c.if-is_container.false ∙ ap (λ b. b && goes_down s (take next names) (drop next names)) (sym is) ∙ sym (down_next s names c.args.above within)
