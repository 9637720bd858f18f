use Rattle.std.proofs.Common.{codes, sym, ◌∙◌}
use Rattle.orc_scene.specs.Stands.{run_setting}
use Rattle.orc_scene.proofs.Downs.{said_words}
use Rattle.orc_world.proofs.Downs.{stop_idle}
use Rattle.orc_world.proofs.world.World.stop.Goals as goal

pub returns-then-not-is_up : goal.returns-then-not-is_up
returns-then-not-is_up g c = λ decls granted seen is may.
    let said = said_words c.stopped.result (codes "stopped\n") c.args.out.now c.say.new.out c.say.result c.stopped.ensures c.say.ensures in
    stop_idle (run_setting g.D.Disk.disk decls c.args.self.now.scene.limit granted) seen c.args.self.now.scene c.args.out.now c.say.new.out c.say.result is (sym c.is_up.ensures ∙ c.if-not-is_up.true) said.0 said.1

pub stop_up-requires-clause-up : goal.stop_up-requires-clause-up
stop_up-requires-clause-up g c = sym c.is_up.ensures ∙ c.if-not-is_up.false

pub returns : goal.returns
returns g c = c.stop_up.ensures
