use Rattle.std.proofs.Common.{inl, refl, sym, subst}
use Rattle.orc_scene.specs.Courses.{HasRoom}
use Rattle.orc_scene.specs.Stands.{run_setting}
use Rattle.orc_scene.proofs.Downs.{hub_none}
use Rattle.orc_scene.proofs.Recovery.{comes_back}
use Rattle.orc_scene.proofs.scene.Scene.recover_down.Goals as goal

pub keep-requires : goal.keep-requires
keep-requires g c = subst (λ w. HasRoom 1 w) (sym c.in-Ok.ensures.rest) c.requires.room

pub returns-in-Ok : goal.returns-in-Ok
returns-in-Ok g c = λ decls granted seen is denied.
    let old = c.args.self.now in
    let here = run_setting g.D.Disk.disk decls old.limit granted in
    let opened = c.in-Ok.ensures.opens decls granted seen is denied in
    comes_back here seen opened.0 old c.open_again.new.self c.keep.new.self (hub_none here seen old.place is.place c.requires.down)
    opened.1 opened.2 opened.3 c.in-Ok.ensures.up opened.4 opened.5 opened.6 c.keep.ensures.kept
    c.history_len-count.result c.recovered.result c.say.result c.args.out.now c.say.new.out c.history_len-count.ensures c.recovered.ensures c.say.ensures

pub returns-in-Err : goal.returns-in-Err
returns-in-Err g c = λ decls granted seen is denied. inl (c.in-Err.ensures.opens decls granted seen is denied, refl)
