use Rattle.std.proofs.Common.{refl, ap}
use Rattle.orc_links.specs.declared.links.Links.{Links}
use Rattle.orc_script.specs.declared.step.ScriptStep.TheVariants as step
use Rattle.orc_world.specs.inside.Shown.{ShowsLogOf}
use Rattle.orc_scene.specs.Stands.{run_setting}
use Rattle.orc_scene.specs.declared.scene.Scene.{Scene}
use Rattle.orc_world.proofs.Showings.{log_line, log_within, said_so}
use Rattle.orc_world.proofs.Times.{ends_at_once}
use Rattle.orc_world.proofs.world.World.log.Goals as goal

pub clear_log-requires : goal.clear_log-requires
clear_log-requires g c = log_within g.D.Disk.disk c.args.self.now.scene c.args.device c.requires.sound.0 c.requires.allowed

pub returns-in-Ok : goal.returns-in-Ok
returns-in-Ok g c = λ decls granted seen is may.
    let old = c.args.self.now.scene in
    let said = said_so c.args.out.now c.say.new.out c.log_text.result (ShowsLogOf old c.args.device) c.log_text.ensures c.in-Ok.ensures.0 in
    log_line (run_setting g.D.Disk.disk decls old.limit granted) seen old _ c.args.device c.args.out.now c.say.new.out said.0 is c.requires.sound.1 said.1
    (ap (λ (links : Links). record old { links = links }) c.clear_log.ensures) said.2

pub returns-in-Err : goal.returns-in-Err
returns-in-Err g c = λ decls granted seen is may.
    ends_at_once (run_setting g.D.Disk.disk decls c.args.self.now.scene.limit granted) (step.Log c.args.device) seen c.args.self.now.scene c.args.self.now.scene
    c.args.out.now c.say.new.out c.in-Err.stop c.in-Err.ensures.1.0 is
    (record { alloc = refl; limit = refl; place = refl; links = refl; snapshots = refl; events_are = refl }) c.in-Err.ensures.1.1 refl
