use Rattle.serde_json.specs.View.{view}
use Rattle.orc_template.specs.Expansions.{when_done}
use Rattle.orc_template.specs.inside.Machine.{scene}
use Rattle.orc_template.proofs.Whens.{judges}
use Rattle.orc_template.proofs.expanding.holds_at.Goals as goal

pub returns : goal.returns
returns g c =
    judges c.args.number (when_done (scene (g.V.DataView.viewed c.args.view.now) c.args.here.now) (view c.args.block.now) c.args.reads.now.reads) c.when_holds.new.reads.reads c.when_holds.result c.at_block.result
    c.when_holds.ensures c.at_block.ensures
