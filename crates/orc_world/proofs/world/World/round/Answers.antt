use Rattle.std.proofs.Common.{[], ◌∷◌, Bool, refl, subst, sym}
use Rattle.orc_runs.specs.Scripts.{IsStill, NoneOf, Part as part, round as round_parts}
use Rattle.orc_world.specs.inside.Rows.{NoneOrdered, RowOrQuiet}
use Rattle.orc_rules.specs.Worlds.{declared}
use Rattle.orc_scene.proofs.Lasted.{went}
use Rattle.orc_world.proofs.Lasted.{operations_of, round_ended_first, round_ended_second, round_ended_third, round_whole, row_between}
use Rattle.orc_world.proofs.Resting.{each_none, round_none}
use Rattle.orc_world.proofs.world.World.round.Goals as goal

pub perform_each-requires : goal.perform_each-requires
perform_each-requires g c =
    row_between g.D.Disk.disk c.scene_is_carried.ensures c.args.self.now.scene c.admit_all.new.self.scene c.args.out.now c.admit_all.new.out
    (λ here. part.Admissions ∷ []) (λ here seen. NoneOf here seen part.Admission) c.in-Ok.admitted (λ here. (refl, tt)) c.requires c.in-Ok.ensures.row

pub decide_all-requires : goal.decide_all-requires
decide_all-requires g c =
    row_between g.D.Disk.disk c.scene_is_carried.ensures c.admit_all.new.self.scene c.perform_each.new.self.scene [] []
    operations_of NoneOrdered c.in-Ok-perform_each.performed (λ here. each_none (declared here.decls))
    (row_between g.D.Disk.disk c.scene_is_carried.ensures c.args.self.now.scene c.admit_all.new.self.scene c.args.out.now c.admit_all.new.out
    (λ here. part.Admissions ∷ []) (λ here seen. NoneOf here seen part.Admission) c.in-Ok.admitted (λ here. (refl, tt)) c.requires c.in-Ok.ensures.row)
    c.in-Ok-perform_each.ensures.row

pub returns-in-Ok-decide_all : goal.returns-in-Ok-decide_all
returns-in-Ok-decide_all g c =
    let whole = subst (λ (came : Bool). RowOrQuiet g.D.Disk.disk (λ here. round_parts here.decls) IsStill c.args.self.now.scene (went came) c.decide_all.new.self.scene c.args.out.now c.decide_all.new.out)
    (sym c.any_came.ensures)
    (round_whole g.D.Disk.disk c.args.self.now.scene c.admit_all.new.self.scene c.perform_each.new.self.scene c.decide_all.new.self.scene c.args.out.now c.admit_all.new.out c.decide_all.new.out
    c.in-Ok.admitted c.in-Ok-perform_each.performed c.in-Ok-decide_all.decided c.in-Ok.ensures.row c.in-Ok-perform_each.ensures.row c.in-Ok-decide_all.ensures.row) in
    record {
      row = whole;
      unmended = (row_between g.D.Disk.disk c.scene_is_carried.ensures c.args.self.now.scene c.decide_all.new.self.scene c.args.out.now c.decide_all.new.out
          (λ here. round_parts here.decls) IsStill c.any_came.result (λ here. round_none here.decls) c.requires whole).1;
    }

pub returns-in-Err-decide_all : goal.returns-in-Err-decide_all
returns-in-Err-decide_all g c = record {
  row = round_ended_third g.D.Disk.disk c.args.self.now.scene c.admit_all.new.self.scene c.perform_each.new.self.scene c.decide_all.new.self.scene c.args.out.now c.admit_all.new.out c.decide_all.new.out
      c.in-Err-decide_all.stop c.in-Ok.admitted c.in-Ok-perform_each.performed c.in-Ok.ensures.row c.in-Ok-perform_each.ensures.row c.in-Err-decide_all.ensures.row;
  unmended = tt;
}

pub returns-in-Err-perform_each : goal.returns-in-Err-perform_each
returns-in-Err-perform_each g c = record {
  row = round_ended_second g.D.Disk.disk c.args.self.now.scene c.admit_all.new.self.scene c.perform_each.new.self.scene c.args.out.now c.admit_all.new.out
      c.in-Err-perform_each.stop c.in-Ok.admitted c.in-Ok.ensures.row c.in-Err-perform_each.ensures.row;
  unmended = tt;
}

pub returns-in-Err : goal.returns-in-Err
returns-in-Err g c = record {
  row = round_ended_first g.D.Disk.disk c.args.self.now.scene c.admit_all.new.self.scene c.admit_all.new.self.scene c.args.out.now c.admit_all.new.out c.in-Err.stop c.in-Err.ensures.row;
  unmended = tt;
}
