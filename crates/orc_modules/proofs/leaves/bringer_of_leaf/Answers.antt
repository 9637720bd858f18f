use Rattle.std.proofs.Common.{◌≡◌, ◌∷◌}
use Rattle.std.specs.Prelude.{None, option_map}
use Rattle.std.specs.Option.{option_map_or}
use Rattle.orc_types.specs.Statements.{subs}
use Rattle.orc_modules.specs.Bare.{Brings}
use Rattle.orc_modules.specs.Children.{grouping}
use Rattle.orc_modules.specs.Stack.{stack, found, modules_of}
use Rattle.orc_modules.specs.inside.Leaves.{leaf_brought}
use Rattle.orc_modules.proofs.Barren.{if_ok, leaf_from}
use Rattle.orc_modules.proofs.leaves.bringer_of_leaf.Goals as goal

pub returns : goal.returns
returns c = if_ok (λ o. Brings c.args.depth c.args.modules.now.all.now (stack c.args.above.now) c.args.stmt.now (option_map found o))
    (λ o. option_map_or (λ g. leaf_brought c.args.depth (modules_of c.args.modules.now) (g.here ∷ g.above) c.args.name.now (subs g.here)) (grouping c.args.modules.now.all.now (stack c.args.above.now) c.args.stmt.now) None
    ≡ option_map_or (λ g. leaf_brought c.args.depth (modules_of c.args.modules.now) (g.here ∷ g.above) c.args.name.now (subs g.here)) (option_map found o) None)
    (λ o. leaf_from (modules_of c.args.modules.now) c.args.name.now c.args.depth (stack c.args.above.now) c.args.stmt.now (option_map found o))
    c.bringer.result c.bringer.ensures
