use Rattle.std.proofs.Common.{refl}
use Rattle.orc_runs.specs.Scripts.{Part as part}
use Rattle.orc_world.proofs.Lasted.{ended_in, exhausted, no_more, none_yet, one_more}
use Rattle.orc_world.proofs.world.World.decide_all.Goals as goal

pub decisions-init : goal.decisions-init
decisions-init g c = none_yet g.D.Disk.disk part.Decisions c.args.self.now.scene c.args.out.now c.requires

pub decide_next-requires : goal.decide_next-requires
decide_next-requires g c = c.decisions.invariant.between

pub decisions-preserved : goal.decisions-preserved
decisions-preserved g c =
    one_more g.D.Disk.disk part.Decisions c.args.self.now.scene c.args.out.now refl c.decisions.self.scene c.decide_next.new.self c.decisions.out c.decide_next.new.out
    c.decisions.came c.decisions.invariant part.Decisions (λ one of. of) c.scene_is_carried.ensures refl c.in-Ok.one c.if-not-one.false c.in-Ok.ensures

pub returns-then-not-one : goal.returns-then-not-one
returns-then-not-one g c = record {
  row = no_more g.D.Disk.disk part.Decisions c.args.self.now.scene c.args.out.now refl c.decisions.self.scene c.decide_next.new.self c.decisions.out c.decide_next.new.out
      c.decisions.came c.decisions.invariant part.Decisions (λ one of. of) (λ here seen none. none) c.in-Ok.one c.if-not-one.true c.in-Ok.ensures;
}

pub returns-in-Err : goal.returns-in-Err
returns-in-Err g c = record {
  row = ended_in g.D.Disk.disk part.Decisions c.args.self.now.scene c.args.out.now refl c.decisions.self.scene c.decide_next.new.self c.decisions.out c.decide_next.new.out
      c.decisions.came c.decisions.invariant part.Decisions (λ one of. of) c.in-Err.stop c.in-Err.ensures;
}

pub returns : goal.returns
returns g c = record {
  row = exhausted g.D.Disk.disk part.Decisions c.args.self.now.scene c.args.out.now refl c.decisions.self.scene c.decisions.self.scene c.decisions.out c.decisions.out
      c.decisions.came c.decisions.invariant;
}
