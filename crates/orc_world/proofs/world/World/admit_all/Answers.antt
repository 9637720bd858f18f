use Rattle.std.proofs.Common.{[], ◌∷◌, refl}
use Rattle.orc_runs.specs.Scripts.{NoneOf, Part as part}
use Rattle.orc_world.proofs.Lasted.{ended_in, exhausted, no_more, none_admitted, none_yet, one_more, one_of_all, row_between}
use Rattle.orc_world.proofs.world.World.admit_all.Goals as goal

pub admissions-init : goal.admissions-init
admissions-init g c = none_yet g.D.Disk.disk part.Admissions c.args.self.now.scene c.args.out.now c.requires

pub admissions-preserved : goal.admissions-preserved
admissions-preserved g c =
    one_more g.D.Disk.disk part.Admissions c.args.self.now.scene c.args.out.now refl c.admissions.self.scene c.admit_next.new.self c.admissions.out c.admit_next.new.out
    c.admissions.came c.admissions.invariant part.Admission one_of_all c.scene_is_carried.ensures refl c.in-Ok.one c.if-not-one.false c.in-Ok.ensures

pub returns-then-not-one : goal.returns-then-not-one
returns-then-not-one g c =
    let row = no_more g.D.Disk.disk part.Admissions c.args.self.now.scene c.args.out.now refl c.admissions.self.scene c.admit_next.new.self c.admissions.out c.admit_next.new.out
    c.admissions.came c.admissions.invariant part.Admission one_of_all none_admitted c.in-Ok.one c.if-not-one.true c.in-Ok.ensures in
    record {
      row = row;
      unmended = (row_between g.D.Disk.disk c.scene_is_carried.ensures c.args.self.now.scene c.admit_next.new.self c.args.out.now c.admit_next.new.out
          (λ here. part.Admissions ∷ []) (λ here seen. NoneOf here seen part.Admission) c.admissions.came (λ here. (refl, tt)) c.requires row).1;
    }

pub returns-in-Err : goal.returns-in-Err
returns-in-Err g c = record {
  row = ended_in g.D.Disk.disk part.Admissions c.args.self.now.scene c.args.out.now refl c.admissions.self.scene c.admit_next.new.self c.admissions.out c.admit_next.new.out
      c.admissions.came c.admissions.invariant part.Admission one_of_all c.in-Err.stop c.in-Err.ensures;
  unmended = tt;
}

pub returns : goal.returns
returns g c = record {
  row = exhausted g.D.Disk.disk part.Admissions c.args.self.now.scene c.args.out.now refl c.admissions.self.scene c.admissions.self.scene c.admissions.out c.admissions.out
      c.admissions.came c.admissions.invariant;
  unmended = tt;
}
