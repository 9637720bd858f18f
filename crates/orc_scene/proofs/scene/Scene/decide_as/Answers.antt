use Rattle.std.proofs.Common.{◌≡◌, IsTrue, length, refl, subst, sym}
use Rattle.std.specs.Prelude.{Some}
use Rattle.orc_decls.specs.declared.declarations.Decls.{Decls}
use Rattle.orc_print.specs.Printed.{is_answer_among}
use Rattle.orc_rules.specs.Acceptance.{declared_kind}
use Rattle.orc_rules.specs.Due.{least_due}
use Rattle.orc_rules.specs.declared.event.Event.TheVariants as event
use Rattle.orc_scene.specs.inside.Effects.{ConcludesAnswer}
use Rattle.orc_scene.specs.Stands.{run_setting}
use Rattle.orc_scene.specs.declared.scene.Place.TheVariants.{Up}
use Rattle.orc_scene.proofs.Answering.{as_declared, decision_answers, decision_breaks, decision_comes, decision_full, decision_settles}
use Rattle.orc_scene.proofs.Turning.{entries_there, never_else, so_there, sound_there}
use Rattle.orc_scene.proofs.scene.Scene.decide_as.Goals as goal

pub decide-requires : goal.decide-requires
decide-requires g c = sound_there g.D.Disk.disk c.args.self.now c.in-Up.hub c.requires.sound.0 c.in-Up.is

pub unreachable-requires : goal.unreachable-requires
unreachable-requires g c =
    let old = c.args.self.now in
    let sound = c.requires.sound.0 in
    decision_comes (run_setting g.D.Disk.disk sound.0 old.limit sound.1) (c.decide_is_event.ensures sound.0 (declared_kind sound.0) old.limit sound.1) sound.2 old c.in-Up.hub c.decide.new.self
    sound.3 c.in-Up.is c.args.t (so_there (λ hub. least_due hub.duties hub.active ≡ Some c.args.t) old.place c.in-Up.hub c.in-Up.is c.requires.next) c.in-Nothing.ensures.decides

pub decided-requires-clause-named : goal.decided-requires-clause-named
decided-requires-clause-named g c =
    let entries = entries_there g.D.Disk.disk c.args.self.now c.in-Up.hub c.requires.sound.0 c.in-Up.is in
    subst (λ (d : Decls). IsTrue (is_answer_among (length d.names) c.in-Answered.answer)) (sym c.in-Answered.ensures.kept.decls)
    (c.decisions_are_named.ensures c.in-Up.hub c.decide.new.self entries.0 c.in-Answered.caller c.in-Answered.number c.in-Answered.answer entries.1 c.in-Answered.ensures.decides)

pub returns-in-Answered : goal.returns-in-Answered
returns-in-Answered g c = λ decls granted seen is.
    let old = c.args.self.now in
    let here = run_setting g.D.Disk.disk decls old.limit granted in
    let middle = record old { place = Up c.decide.new.self } in
    decision_answers here (c.scene_is_carried.ensures decls old.limit granted is.decls) c.snapshot_stays_at_front.ensures
    (c.decide_is_event.ensures decls (declared_kind decls) old.limit granted) seen old middle c.decided.new.self c.in-Up.hub c.decide.new.self
    is c.in-Up.is c.in-Answered.ensures.kept refl refl refl refl refl c.args.t
    (so_there (λ hub. least_due hub.duties hub.active ≡ Some c.args.t) old.place c.in-Up.hub c.in-Up.is c.requires.next) c.args.out.now c.decided.new.out
    c.in-Answered.caller c.in-Answered.number c.in-Answered.answer c.decided.result c.in-Answered.ensures.decides
    (as_declared here seen old c.in-Up.hub c.decide.new.self is c.in-Up.is c.in-Answered.ensures.kept
    (λ (d : Decls). ConcludesAnswer d.names middle c.in-Answered.caller c.in-Answered.number c.in-Answered.answer (event.Decide c.args.t c.in-Answered.answer)
    c.args.out.now c.decided.result c.decided.new.self c.decided.new.out) c.decided.ensures)

pub returns-in-Settled : goal.returns-in-Settled
returns-in-Settled g c = λ decls granted seen is.
    let old = c.args.self.now in
    let here = run_setting g.D.Disk.disk decls old.limit granted in
    decision_settles here (c.scene_is_carried.ensures decls old.limit granted is.decls) c.snapshot_stays_at_front.ensures
    (c.decide_is_event.ensures decls (declared_kind decls) old.limit granted) seen old (record old { place = Up c.decide.new.self }) c.keep.new.self c.in-Up.hub c.decide.new.self
    is c.in-Up.is c.in-Settled.ensures.kept refl refl refl refl refl c.args.t
    (so_there (λ hub. least_due hub.duties hub.active ≡ Some c.args.t) old.place c.in-Up.hub c.in-Up.is c.requires.next) c.args.out.now c.args.out.now
    c.in-Settled.t c.in-Settled.ensures.decides c.keep.ensures.kept refl

pub returns-in-Down : goal.returns-in-Down
returns-in-Down g c = λ decls granted seen is.
    let old = c.args.self.now in
    let here = run_setting g.D.Disk.disk decls old.limit granted in
    decision_breaks here (c.scene_is_carried.ensures decls old.limit granted is.decls) c.snapshot_stays_at_front.ensures
    (c.decide_is_event.ensures decls (declared_kind decls) old.limit granted) seen old (record old { place = Up c.decide.new.self }) c.failed.new.self c.in-Up.hub c.decide.new.self
    is c.in-Up.is c.in-Down.ensures.kept refl refl refl refl refl c.args.t
    (so_there (λ hub. least_due hub.duties hub.active ≡ Some c.args.t) old.place c.in-Up.hub c.in-Up.is c.requires.next) c.args.out.now c.failed.new.out
    c.in-Down.ensures.decides c.new.result c.new.ensures.items c.failed.result c.failed.ensures

pub returns-in-Full : goal.returns-in-Full
returns-in-Full g c = λ decls granted seen is.
    let old = c.args.self.now in
    let here = run_setting g.D.Disk.disk decls old.limit granted in
    decision_full here (c.scene_is_carried.ensures decls old.limit granted is.decls) c.snapshot_stays_at_front.ensures
    (c.decide_is_event.ensures decls (declared_kind decls) old.limit granted) seen old (record old { place = Up c.decide.new.self }) c.full.new.self c.in-Up.hub c.decide.new.self
    is c.in-Up.is c.in-Full.ensures.kept refl refl refl refl refl c.args.t
    (so_there (λ hub. least_due hub.duties hub.active ≡ Some c.args.t) old.place c.in-Up.hub c.in-Up.is c.requires.next) c.args.out.now c.args.out.now
    c.in-Full.len c.in-Full.ensures.decides c.full.ensures.state refl c.full.result c.full.ensures.why

pub unreachable-requires-in_default : goal.unreachable-requires-in_default
unreachable-requires-in_default g c = never_else c.args.self.now.place c.in_default.not-Up _ c.requires.next
