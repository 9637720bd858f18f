use Rattle.std.proofs.Common.{ℕ, List, [], ap, ◌∙◌}
use Rattle.std.specs.declared.result.Result.TheVariants.{Ok}
use Rattle.orc_queue.specs.declared.held.Held.{Held}
use Rattle.orc_template.specs.declared.expansion.Expansion.{Expansion}
use Rattle.orc_datastore.specs.inside.Sights.{held_known}
use Rattle.orc_datastore.proofs.Alone.{planned_themselves}
use Rattle.orc_datastore.proofs.plan.planned_alone.Goals as goal

pub returns : goal.returns
returns c =
    let decls = c.args.decls.now in
    let known = c.args.known.now in
    let actions = c.args.actions.now in
    let front = c.args.front in
    let config = c.args.data in
    ap (λ (h : Held). Ok (record { front = front; held = h; expansions = c.new-2.result; next = config }))
    (c.in_ok-held.ensures ∙ ap (held_known decls known actions actions) c.new.ensures)
    ∙ ap (λ (l : List (List ℕ × Expansion)). Ok (record { front = front; held = held_known decls known actions actions []; expansions = l; next = config })) c.new-2.ensures
    ∙ planned_themselves decls known front actions config c.requires.alone
