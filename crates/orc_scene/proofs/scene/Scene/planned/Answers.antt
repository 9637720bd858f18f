use Rattle.std.proofs.Common.{sym, ◌∙◌}
use Rattle.orc_decls.specs.Declarations.{AreDecls}
use Rattle.orc_scene.specs.Effects.{hub_in}
use Rattle.orc_scene.proofs.Firsts.{decls_sound, front_not_none, hub_none, planned_on, taken_under}
use Rattle.orc_scene.proofs.scene.Scene.planned.Goals as goal

pub returns-then-not-is_up : goal.returns-then-not-is_up
returns-then-not-is_up g c = hub_none (hub_in c.args.self.now.place) (sym c.is_up.ensures ∙ c.if-not-is_up.true)

pub plan-requires-clause-decls : goal.plan-requires-clause-decls
plan-requires-clause-decls g c = decls_sound g.D.Disk.disk c.args.self.now AreDecls c.requires.sound c.requires.sound.3.decls

pub plan-requires-clause-lawful : goal.plan-requires-clause-lawful
plan-requires-clause-lawful g c = c.requires.lawful

pub plan-requires-clause-under : goal.plan-requires-clause-under
plan-requires-clause-under g c = taken_under g.D.Disk.disk c.args.self.now c.requires.sound c.args.call.now.caller c.in-Some.taken.now c.in-Some.ensures

pub unreachable-requires : goal.unreachable-requires
unreachable-requires g c =
    front_not_none c.args.self.now.place c.args.self.now.snapshots.taken c.args.call.now.caller (sym c.is_up.ensures ∙ c.if-not-is_up.false) c.in-None.ensures c.requires.front

pub returns : goal.returns
returns g c =
    planned_on g.D.Disk.disk c.args.self.now c.requires.sound c.args.call.now.caller c.in-Some.taken.now c.in-Some.ensures c.args.call.now c.front.result c.plan.result c.front.ensures c.plan.ensures
    (sym c.is_up.ensures ∙ c.if-not-is_up.false)
