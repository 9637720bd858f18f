use Rattle.std.proofs.Common.{ℕ, List, ap, sym, ◌∙◌}
use Rattle.std.specs.Option.{option_copied}
use Rattle.orc_path.specs.declared.item.Item.{Item}
use Rattle.orc_refs.specs.inside.Marks.{all_are}
use Rattle.orc_refs.specs.inside.Settling.{all_bring}
use Rattle.orc_refs.proofs.MarkLaws.{all_at}
use Rattle.orc_refs.proofs.plan.Plan.settle.Goals as goal

pub returns-then-not-all_are-clause-agree : goal.returns-then-not-all_are-clause-agree
returns-then-not-all_are-clause-agree c =
    let o = option_copied c.item_after-after.result in
    sym c.if-not-all_are.true ∙ c.all_are.ensures ∙ ap (λ (bs : List (List ℕ × Item)). all_are bs o) c.requires ∙ all_at c.args.moves.now c.args.path.now o
    ∙ ap (all_bring c.args.moves.now c.args.path.now) c.item_after-after.ensures

pub returns-clause-agree : goal.returns-clause-agree
returns-clause-agree c =
    let o = option_copied c.item_after-after.result in
    sym c.if-not-all_are.false ∙ c.all_are.ensures ∙ ap (λ (bs : List (List ℕ × Item)). all_are bs o) c.requires ∙ all_at c.args.moves.now c.args.path.now o
    ∙ ap (all_bring c.args.moves.now c.args.path.now) c.item_after-after.ensures
