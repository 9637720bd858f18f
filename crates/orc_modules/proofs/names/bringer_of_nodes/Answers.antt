use Rattle.std.proofs.Common.{◌≡◌, [], ◌∷◌}
use Rattle.std.specs.Prelude.{option_map}
use Rattle.std.specs.Option.{option_map_or}
use Rattle.orc_types.specs.Statements.{subs}
use Rattle.orc_modules.specs.Bare.{Brings}
use Rattle.orc_modules.specs.Children.{grouping, brought}
use Rattle.orc_modules.specs.Stack.{stack, found}
use Rattle.orc_modules.proofs.Barren.{if_ok, nodes_by}
use Rattle.orc_modules.proofs.names.bringer_of_nodes.Goals as goal

pub returns : goal.returns
returns c = if_ok (λ o. Brings c.args.depth c.args.modules.now.all.now (stack c.args.above.now) c.args.stmt.now (option_map found o))
    (λ o. option_map_or (λ g. brought c.args.depth c.args.modules.now.all.now (g.here ∷ g.above) (subs g.here)) (grouping c.args.modules.now.all.now (stack c.args.above.now) c.args.stmt.now) []
    ≡ option_map_or (λ g. brought c.args.depth c.args.modules.now.all.now (g.here ∷ g.above) (subs g.here)) (option_map found o) [])
    (λ o. nodes_by c.args.modules.now.all.now c.args.depth (stack c.args.above.now) c.args.stmt.now (option_map found o))
    c.bringer.result c.bringer.ensures
