use Rattle.std.proofs.Common.{◌≡◌, []}
use Rattle.std.specs.Prelude.{option_map}
use Rattle.std.specs.Option.{option_map_or}
use Rattle.orc_modules.specs.Bare.{Brings}
use Rattle.orc_modules.specs.Children.{grouping}
use Rattle.orc_modules.specs.Stack.{stack, found, modules_of}
use Rattle.orc_schema.specs.Drafts.{in_grouping, drafts_below}
use Rattle.orc_schema.specs.inside.Carried.{where_of}
use Rattle.orc_schema.proofs.Barren.{if_ok, drafts_by}
use Rattle.orc_schema.proofs.drafting.bringer_at.Goals as goal

pub returns : goal.returns
returns c = if_ok (λ o. Brings c.args.depth c.args.modules.now.all.now (stack c.args.at.now.above.now) c.args.stmt.now (option_map found o))
    (λ o. option_map_or (λ g. drafts_below c.args.depth (modules_of c.args.modules.now) (in_grouping (where_of c.args.at.now) g) g.here) (grouping c.args.modules.now.all.now (stack c.args.at.now.above.now) c.args.stmt.now) []
    ≡ option_map_or (λ g. drafts_below c.args.depth (modules_of c.args.modules.now) (in_grouping (where_of c.args.at.now) g) g.here) (option_map found o) [])
    (λ o. drafts_by (modules_of c.args.modules.now) c.args.depth (where_of c.args.at.now) c.args.stmt.now (option_map found o))
    c.bringer.result c.bringer.ensures
