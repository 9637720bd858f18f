use Rattle.std.proofs.Common.{◌≡◌, ℕ, Bor, Some, List, true, false, sym, ap, ◌∙◌}
use Rattle.std.specs.Prelude.{option_map}
use Rattle.orc_check.specs.Validity.{behind}
use Rattle.orc_check.proofs.Reached.{is_behind, down_behind}
use Rattle.orc_check.proofs.reach.reached.Goals as goal

pub goes_down-requires : goal.goes_down-requires
goes_down-requires c =
    let found : Some c.in-Some.later.now ≡ behind c.args.steps.now c.args.names.now =
    ap (option_map (λ (l : Bor (List (List ℕ))). l.now)) (sym c.in-Some.is) ∙ c.behind.ensures in
    (is_behind c.args.steps.now c.args.names.now c.in-Some.later.now (sym found)).within

pub returns-then-goes_down : goal.returns-then-goes_down
returns-then-goes_down c =
    let found : Some c.in-Some.later.now ≡ behind c.args.steps.now c.args.names.now =
    ap (option_map (λ (l : Bor (List (List ℕ))). l.now)) (sym c.in-Some.is) ∙ c.behind.ensures in
    down_behind c.args.schema.now c.args.steps.now c.args.names.now c.in-Some.later.now true found (sym c.if-goes_down.true ∙ c.goes_down.ensures)

pub returns-else-goes_down : goal.returns-else-goes_down
returns-else-goes_down c =
    let found : Some c.in-Some.later.now ≡ behind c.args.steps.now c.args.names.now =
    ap (option_map (λ (l : Bor (List (List ℕ))). l.now)) (sym c.in-Some.is) ∙ c.behind.ensures in
    down_behind c.args.schema.now c.args.steps.now c.args.names.now c.in-Some.later.now false found (sym c.if-goes_down.false ∙ c.goes_down.ensures)
