use Rattle.orc_world.proofs.Lasted.{no_round_yet, round_ended, round_last, round_more, rounds_exhausted}
use Rattle.orc_world.proofs.world.World.settle_all.Goals as goal

pub rounds-init : goal.rounds-init
rounds-init g c = no_round_yet g.D.Disk.disk c.args.self.now.scene c.args.out.now c.requires

pub rounds-preserved : goal.rounds-preserved
rounds-preserved g c =
    round_more g.D.Disk.disk c.args.self.now.scene c.args.out.now c.rounds.self.scene c.round.new.self.scene c.rounds.out c.round.new.out c.rounds.invariant
    c.scene_is_carried.ensures c.in-Ok.came c.in-Ok.ensures.row

pub returns-then-not-came : goal.returns-then-not-came
returns-then-not-came g c =
    let settles = round_last g.D.Disk.disk c.args.self.now.scene c.args.out.now c.rounds.self.scene c.round.new.self.scene c.rounds.out c.round.new.out c.rounds.invariant
    c.in-Ok.came c.if-not-came.true c.in-Ok.ensures.row in
    record { row = settles; unmended = c.in-Ok.ensures.unmended }

pub returns-in-Err : goal.returns-in-Err
returns-in-Err g c = record {
  row = round_ended g.D.Disk.disk c.args.self.now.scene c.args.out.now c.rounds.self.scene c.round.new.self.scene c.rounds.out c.round.new.out c.rounds.invariant
      c.in-Err.stop c.in-Err.ensures.row;
  unmended = tt;
}

pub returns : goal.returns
returns g c = record {
  row = rounds_exhausted g.D.Disk.disk c.args.self.now.scene c.args.out.now c.rounds.self.scene c.rounds.self.scene c.rounds.out c.rounds.out c.rounds.invariant;
  unmended = tt;
}
