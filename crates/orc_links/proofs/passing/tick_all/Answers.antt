use Rattle.orc_links.specs.Networks.{link_ticked}
use Rattle.orc_links.proofs.Changed.{changed_more}
use Rattle.orc_links.proofs.passing.tick_all.Goals as goal

pub loop-link-preserved : goal.loop-link-preserved
loop-link-preserved c =
    changed_more (link_ticked c.args.seconds) c.args.links.now c.loop-link.links c.loop-link.link-index c.link-item.result c.tick.new.link
    c.loop-link-test.true c.loop-link.auto.links c.loop-link.invariant c.tick.ensures
