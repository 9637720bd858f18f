use Rattle.std.proofs.Common.{◌≡◌, ◌++◌, ◌∷◌, [], ℕ, List, ap, ◌∙◌}
use Rattle.orc_path.specs.Steps.{PathStep}
use Rattle.orc_path.specs.declared.item.Item.{Item}
use Rattle.orc_refs.specs.inside.Marks.{entered}
use Rattle.orc_refs.specs.inside.Settling.{ids_after, staying}
use Rattle.orc_refs.proofs.MarkLaws.{entered_at}
use Rattle.orc_refs.proofs.plan.Plan.add_pointers.Goals as goal

pub returns-clause-rows : goal.returns-clause-rows
returns-clause-rows c = λ w.
    let stay = staying c.args.moves.now c.args.ids.now in
    let ids : c.from_vec.result ≡ ids_after c.args.moves.now c.args.path.now c.args.ids.now =
    c.from_vec.ensures ∙ c.in_ok-after.ensures ∙ ap (λ (bs : List (List ℕ × Item)). entered bs stay) c.requires ∙ entered_at c.args.moves.now c.args.path.now stay in
    c.in_ok-push.ensures.ok
    ∙ ap (λ (q : List PathStep). c.args.self.now.rows ++ (q, c.from_vec.result) ∷ []) c.in_ok-copy.ensures
    ∙ ap (λ (xs : List (List ℕ)). c.args.self.now.rows ++ (c.args.path.now, xs) ∷ []) ids
