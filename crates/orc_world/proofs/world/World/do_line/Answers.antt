use Rattle.std.proofs.Common.{subst, sym}
use Rattle.orc_script.specs.declared.step.ScriptStep.{ScriptStep}
use Rattle.orc_world.specs.Lines.{IsLineCall}
use Rattle.orc_scene.specs.Stands.{Allows}
use Rattle.orc_world.proofs.world.World.do_line.Goals as goal

pub begin-requires-clause-allowed : goal.begin-requires-clause-allowed
begin-requires-clause-allowed g c = subst (λ (line : ScriptStep). Allows c.args.self.now.scene line) c.in-Begin.is c.requires.allowed

pub returns-in-Begin : goal.returns-in-Begin
returns-in-Begin g c =
    subst (λ (line : ScriptStep). IsLineCall g.D.Disk.disk line c.args.self.now.scene c.begin.result c.begin.new.self.scene c.args.out.now c.begin.new.out) (sym c.in-Begin.is) c.begin.ensures

pub call_copy-requires-clause-allowed : goal.call_copy-requires-clause-allowed
call_copy-requires-clause-allowed g c = subst (λ (line : ScriptStep). Allows c.args.self.now.scene line) c.in-Call.is c.requires.allowed

pub returns-in-Call : goal.returns-in-Call
returns-in-Call g c =
    subst (λ (line : ScriptStep). IsLineCall g.D.Disk.disk line c.args.self.now.scene c.call_copy.result c.call_copy.new.self.scene c.args.out.now c.call_copy.new.out) (sym c.in-Call.is) c.call_copy.ensures

pub admit-requires-clause-allowed : goal.admit-requires-clause-allowed
admit-requires-clause-allowed g c = subst (λ (line : ScriptStep). Allows c.args.self.now.scene line) c.in-Admit.is c.requires.allowed

pub returns-in-Admit : goal.returns-in-Admit
returns-in-Admit g c =
    subst (λ (line : ScriptStep). IsLineCall g.D.Disk.disk line c.args.self.now.scene c.admit.result c.admit.new.self.scene c.args.out.now c.admit.new.out) (sym c.in-Admit.is) c.admit.ensures

pub step-requires-clause-allowed : goal.step-requires-clause-allowed
step-requires-clause-allowed g c = subst (λ (line : ScriptStep). Allows c.args.self.now.scene line) c.in-Step.is c.requires.allowed

pub returns-in-Step : goal.returns-in-Step
returns-in-Step g c =
    subst (λ (line : ScriptStep). IsLineCall g.D.Disk.disk line c.args.self.now.scene c.step.result c.step.new.self.scene c.args.out.now c.step.new.out) (sym c.in-Step.is) c.step.ensures

pub decide-requires-clause-allowed : goal.decide-requires-clause-allowed
decide-requires-clause-allowed g c = subst (λ (line : ScriptStep). Allows c.args.self.now.scene line) c.in-Decide.is c.requires.allowed

pub returns-in-Decide : goal.returns-in-Decide
returns-in-Decide g c =
    subst (λ (line : ScriptStep). IsLineCall g.D.Disk.disk line c.args.self.now.scene c.decide.result c.decide.new.self.scene c.args.out.now c.decide.new.out) (sym c.in-Decide.is) c.decide.ensures

pub settle-requires-clause-allowed : goal.settle-requires-clause-allowed
settle-requires-clause-allowed g c = subst (λ (line : ScriptStep). Allows c.args.self.now.scene line) c.in-Settle.is c.requires.allowed

pub returns-in-Settle : goal.returns-in-Settle
returns-in-Settle g c =
    subst (λ (line : ScriptStep). IsLineCall g.D.Disk.disk line c.args.self.now.scene c.settle.result c.settle.new.self.scene c.args.out.now c.settle.new.out) (sym c.in-Settle.is) c.settle.ensures

pub tick-requires-clause-allowed : goal.tick-requires-clause-allowed
tick-requires-clause-allowed g c = subst (λ (line : ScriptStep). Allows c.args.self.now.scene line) c.in-Tick.is c.requires.allowed

pub returns-in-Tick : goal.returns-in-Tick
returns-in-Tick g c =
    subst (λ (line : ScriptStep). IsLineCall g.D.Disk.disk line c.args.self.now.scene c.tick.result c.tick.new.self.scene c.args.out.now c.tick.new.out) (sym c.in-Tick.is) c.tick.ensures

pub restart-requires-clause-allowed : goal.restart-requires-clause-allowed
restart-requires-clause-allowed g c = subst (λ (line : ScriptStep). Allows c.args.self.now.scene line) c.in-Restart.is c.requires.allowed

pub returns-in-Restart : goal.returns-in-Restart
returns-in-Restart g c =
    subst (λ (line : ScriptStep). IsLineCall g.D.Disk.disk line c.args.self.now.scene c.restart.result c.restart.new.self.scene c.args.out.now c.restart.new.out) (sym c.in-Restart.is) c.restart.ensures

pub fault-requires-clause-allowed : goal.fault-requires-clause-allowed
fault-requires-clause-allowed g c = subst (λ (line : ScriptStep). Allows c.args.self.now.scene line) c.in-Fault.is c.requires.allowed

pub returns-in-Fault : goal.returns-in-Fault
returns-in-Fault g c =
    subst (λ (line : ScriptStep). IsLineCall g.D.Disk.disk line c.args.self.now.scene c.fault.result c.fault.new.self.scene c.args.out.now c.fault.new.out) (sym c.in-Fault.is) c.fault.ensures

pub stop-requires-clause-allowed : goal.stop-requires-clause-allowed
stop-requires-clause-allowed g c = subst (λ (line : ScriptStep). Allows c.args.self.now.scene line) c.in-Stop.is c.requires.allowed

pub returns-in-Stop : goal.returns-in-Stop
returns-in-Stop g c =
    subst (λ (line : ScriptStep). IsLineCall g.D.Disk.disk line c.args.self.now.scene c.stop.result c.stop.new.self.scene c.args.out.now c.stop.new.out) (sym c.in-Stop.is) c.stop.ensures

pub stop_at-requires-clause-allowed : goal.stop_at-requires-clause-allowed
stop_at-requires-clause-allowed g c = subst (λ (line : ScriptStep). Allows c.args.self.now.scene line) c.in-StopAt.is c.requires.allowed

pub returns-in-StopAt : goal.returns-in-StopAt
returns-in-StopAt g c =
    subst (λ (line : ScriptStep). IsLineCall g.D.Disk.disk line c.args.self.now.scene c.stop_at.result c.stop_at.new.self.scene c.args.out.now c.stop_at.new.out) (sym c.in-StopAt.is) c.stop_at.ensures

pub recover-requires-clause-allowed : goal.recover-requires-clause-allowed
recover-requires-clause-allowed g c = subst (λ (line : ScriptStep). Allows c.args.self.now.scene line) c.in-Recover.is c.requires.allowed

pub returns-in-Recover : goal.returns-in-Recover
returns-in-Recover g c =
    subst (λ (line : ScriptStep). IsLineCall g.D.Disk.disk line c.args.self.now.scene c.recover.result c.recover.new.self.scene c.args.out.now c.recover.new.out) (sym c.in-Recover.is) c.recover.ensures

pub reconcile-requires-clause-allowed : goal.reconcile-requires-clause-allowed
reconcile-requires-clause-allowed g c = subst (λ (line : ScriptStep). Allows c.args.self.now.scene line) c.in-Reconcile.is c.requires.allowed

pub returns-in-Reconcile : goal.returns-in-Reconcile
returns-in-Reconcile g c =
    subst (λ (line : ScriptStep). IsLineCall g.D.Disk.disk line c.args.self.now.scene c.reconcile.result c.reconcile.new.self.scene c.args.out.now c.reconcile.new.out) (sym c.in-Reconcile.is) c.reconcile.ensures

pub show-requires-clause-allowed : goal.show-requires-clause-allowed
show-requires-clause-allowed g c = subst (λ (line : ScriptStep). Allows c.args.self.now.scene line) c.in-Show.is c.requires.allowed

pub returns-in-Show : goal.returns-in-Show
returns-in-Show g c =
    subst (λ (line : ScriptStep). IsLineCall g.D.Disk.disk line c.args.self.now.scene c.show.result c.show.new.self.scene c.args.out.now c.show.new.out) (sym c.in-Show.is) c.show.ensures

pub json-requires-clause-allowed : goal.json-requires-clause-allowed
json-requires-clause-allowed g c = subst (λ (line : ScriptStep). Allows c.args.self.now.scene line) c.in-Json.is c.requires.allowed

pub returns-in-Json : goal.returns-in-Json
returns-in-Json g c =
    subst (λ (line : ScriptStep). IsLineCall g.D.Disk.disk line c.args.self.now.scene c.json.result c.json.new.self.scene c.args.out.now c.json.new.out) (sym c.in-Json.is) c.json.ensures

pub log-requires-clause-allowed : goal.log-requires-clause-allowed
log-requires-clause-allowed g c = subst (λ (line : ScriptStep). Allows c.args.self.now.scene line) c.in-Log.is c.requires.allowed

pub returns-in-Log : goal.returns-in-Log
returns-in-Log g c =
    subst (λ (line : ScriptStep). IsLineCall g.D.Disk.disk line c.args.self.now.scene c.log.result c.log.new.self.scene c.args.out.now c.log.new.out) (sym c.in-Log.is) c.log.ensures

pub meta-requires-clause-allowed : goal.meta-requires-clause-allowed
meta-requires-clause-allowed g c = subst (λ (line : ScriptStep). Allows c.args.self.now.scene line) c.in-Meta.is c.requires.allowed

pub returns-in-Meta : goal.returns-in-Meta
returns-in-Meta g c =
    subst (λ (line : ScriptStep). IsLineCall g.D.Disk.disk line c.args.self.now.scene c.meta.result c.meta.new.self.scene c.args.out.now c.meta.new.out) (sym c.in-Meta.is) c.meta.ensures

pub show_data-requires-clause-allowed : goal.show_data-requires-clause-allowed
show_data-requires-clause-allowed g c = subst (λ (line : ScriptStep). Allows c.args.self.now.scene line) c.in-ShowData.is c.requires.allowed

pub returns-in-ShowData : goal.returns-in-ShowData
returns-in-ShowData g c =
    subst (λ (line : ScriptStep). IsLineCall g.D.Disk.disk line c.args.self.now.scene c.show_data.result c.show_data.new.self.scene c.args.out.now c.show_data.new.out) (sym c.in-ShowData.is) c.show_data.ensures

pub history-requires-clause-allowed : goal.history-requires-clause-allowed
history-requires-clause-allowed g c = subst (λ (line : ScriptStep). Allows c.args.self.now.scene line) c.in-History.is c.requires.allowed

pub returns-in-History : goal.returns-in-History
returns-in-History g c =
    subst (λ (line : ScriptStep). IsLineCall g.D.Disk.disk line c.args.self.now.scene c.history.result c.history.new.self.scene c.args.out.now c.history.new.out) (sym c.in-History.is) c.history.ensures
