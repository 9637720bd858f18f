use Rattle.std.proofs.Common.{◌≡◌, true, List, sym, subst, ◌∙◌}
use Rattle.orc_path.specs.Steps.{PathStep, is_path}
use Rattle.orc_lines.proofs.CanonicalItems.{canonical_lawful}
use Rattle.orc_lines.proofs.KeptPaths.{own_names}
use Rattle.orc_lines.proofs.items.canonical_put.Goals as goal

pub returns-clause-lawful : goal.returns-clause-lawful
returns-clause-lawful c = λ carry plain.
    let s = c.args.schema.now in
    let path = c.args.path.now in
    let own = c.in-Some.own in
    let own_item = c.in-Some-2.own_item in
    canonical_lawful s path own c.args.item.now own_item c.canonical_is_typed.ensures c.canonical_keeps.ensures
    (sym c.in_ok-own.ensures ∙ c.in-Some.is) (sym c.in_ok-own_item.ensures ∙ c.in-Some-2.is) carry plain
    (subst (λ (p : List PathStep). is_path p ≡ true) c.own.view_is c.own.invariant) (sym c.if-is_long.ensures) (sym c.if-is_long_item.ensures)

pub returns-clause-names : goal.returns-clause-names
returns-clause-names c = own_names c.args.schema.now c.args.path.now c.in-Some.own (sym c.in_ok-own.ensures ∙ c.in-Some.is)
