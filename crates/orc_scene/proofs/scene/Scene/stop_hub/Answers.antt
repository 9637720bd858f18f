use Rattle.std.proofs.Common.{◌≡◌, false, is_some, subst, sym}
use Rattle.orc_rules.specs.Acceptance.{declared_kind}
use Rattle.orc_scene.specs.Effects.{hub_in}
use Rattle.orc_scene.specs.Stands.{run_setting}
use Rattle.orc_scene.proofs.Downs.{gone_down, stop_goes, up_there}
use Rattle.orc_scene.proofs.scene.Scene.stop_hub.Goals as goal

pub returns-clause-stops : goal.returns-clause-stops
returns-clause-stops g c = λ decls granted seen is.
    let old = c.args.self.now in
    let up = up_there old.place c.requires.up in
    stop_goes (run_setting g.D.Disk.disk decls old.limit granted) (c.scene_is_carried.ensures decls old.limit granted is.decls)
    (c.letting_go_is_stop.ensures decls (declared_kind decls) old.limit granted) seen old c.stop_now.new.self up.0 is up.1 c.stop_now.ensures.stops

pub returns-clause-down : goal.returns-clause-down
returns-clause-down g c = subst (λ p. is_some (hub_in p) ≡ false) (sym c.stop_now.ensures.stops.place) (gone_down c.args.self.now.place)
