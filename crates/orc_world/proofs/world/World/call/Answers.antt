use Rattle.std.proofs.Common.{IsTrue, subst, sym}
use Rattle.std.specs.Prelude.{MatchOption}
use Rattle.orc_decls.specs.Calls.{is_call}
use Rattle.orc_scene.specs.Stands.{decls_in}
use Rattle.orc_world.proofs.Firsts.{call_line, call_line_ended, first_between}
use Rattle.orc_world.proofs.world.World.call.Goals as goal

pub take_first-requires : goal.take_first-requires
take_first-requires g c = c.requires.sound

pub submit_now-requires-clause-sound : goal.submit_now-requires-clause-sound
submit_now-requires-clause-sound g c =
    first_between g.D.Disk.disk c.scene_is_carried.ensures c.args.self.now.scene c.take_first.new.self c.args.call.caller c.requires.sound c.in-Ok.ensures.row

pub submit_now-requires-clause-lawful : goal.submit_now-requires-clause-lawful
submit_now-requires-clause-lawful g c =
    subst (λ p. MatchOption (decls_in p) ⊥ (λ decls. IsTrue (is_call decls c.args.call))) (sym c.in-Ok.ensures.place) c.requires.allowed

pub submit_now-requires-clause-front : goal.submit_now-requires-clause-front
submit_now-requires-clause-front g c = c.in-Ok.ensures.taken

pub returns-in-Ok : goal.returns-in-Ok
returns-in-Ok g c =
    call_line g.D.Disk.disk c.scene_is_carried.ensures c.args.self.now.scene c.args.out.now c.args.call c.take_first.new.self c.submit_now.new.self c.submit_now.new.out c.requires.sound
    c.in-Ok.ensures.row c.submit_now.result c.submit_now.ensures

pub returns-in-Err : goal.returns-in-Err
returns-in-Err g c =
    call_line_ended g.D.Disk.disk c.scene_is_carried.ensures c.args.self.now.scene c.args.out.now c.args.call c.take_first.new.self c.in-Err.stop c.in-Err.ensures.row
