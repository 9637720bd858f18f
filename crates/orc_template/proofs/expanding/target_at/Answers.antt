use Rattle.serde_json.specs.View.{view}
use Rattle.orc_template.specs.Expansions.{target_done}
use Rattle.orc_template.specs.inside.Machine.{ground}
use Rattle.orc_template.specs.inside.Expanding.{expanding_of}
use Rattle.orc_template.proofs.Whens.{target_told}
use Rattle.orc_template.proofs.expanding.target_at.Goals as goal

pub returns : goal.returns
returns g c =
    target_told c.args.number (target_done (ground (g.V.DataView.viewed c.args.view.now) c.args.devices.now) c.args.here.now (view c.args.block.now) (expanding_of c.args.expanding.now))
    (expanding_of c.do_target.new.expanding) c.do_target.result c.at_block.result c.do_target.ensures c.at_block.ensures
