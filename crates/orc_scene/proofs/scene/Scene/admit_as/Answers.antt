use Rattle.std.proofs.Common.{IsTrue, length, refl, subst, sym}
use Rattle.orc_decls.specs.declared.declarations.Decls.{Decls}
use Rattle.orc_hub.specs.Admits.{IsNextToAdmit}
use Rattle.orc_print.specs.Printed.{is_answer_among}
use Rattle.orc_rules.specs.Acceptance.{declared_kind}
use Rattle.orc_rules.specs.declared.event.Event.TheVariants as event
use Rattle.std.specs.Prelude.{Some}
use Rattle.orc_scene.specs.inside.Effects.{ConcludesAnswer}
use Rattle.orc_scene.specs.Stands.{IsNotReconciling, run_setting}
use Rattle.orc_scene.specs.declared.scene.Place.TheVariants.{Up}
use Rattle.orc_scene.proofs.Answering.{admission_answers, admission_begins, admission_comes, admission_full, as_declared}
use Rattle.orc_scene.proofs.Turning.{entries_there, never_else, so_there, sound_there, up_there}
use Rattle.orc_scene.proofs.scene.Scene.admit_as.Goals as goal

pub admit-requires-clause-hub : goal.admit-requires-clause-hub
admit-requires-clause-hub g c = sound_there g.D.Disk.disk c.args.self.now c.in-Up.hub c.requires.sound.0 c.in-Up.is

pub admit-requires-clause-up : goal.admit-requires-clause-up
admit-requires-clause-up g c = up_there g.D.Disk.disk c.args.self.now c.in-Up.hub c.requires.sound.0 c.in-Up.is

pub admit-requires-clause-mended : goal.admit-requires-clause-mended
admit-requires-clause-mended g c = subst (λ p. IsNotReconciling p) c.in-Up.is c.requires.sound.1

pub unreachable-requires : goal.unreachable-requires
unreachable-requires g c =
    let old = c.args.self.now in
    let sound = c.requires.sound.0 in
    admission_comes (run_setting g.D.Disk.disk sound.0 old.limit sound.1) (c.admit_is_event.ensures sound.0 (declared_kind sound.0) old.limit sound.1) sound.2 old c.in-Up.hub c.admit.new.self
    sound.3 c.in-Up.is (subst (λ p. IsNotReconciling p) c.in-Up.is c.requires.sound.1) c.args.t
    (so_there (λ hub. IsNextToAdmit hub.active hub.waiting c.args.t) old.place c.in-Up.hub c.in-Up.is c.requires.next) c.in-Nothing.ensures.admits

pub not_admitted-requires-clause-named : goal.not_admitted-requires-clause-named
not_admitted-requires-clause-named g c =
    let entries = entries_there g.D.Disk.disk c.args.self.now c.in-Up.hub c.requires.sound.0 c.in-Up.is in
    subst (λ (d : Decls). IsTrue (is_answer_among (length d.names) c.in-Answered.answer)) (sym c.in-Answered.ensures.kept.decls)
    (c.admissions_are_named.ensures c.in-Up.hub c.admit.new.self entries.0 c.in-Answered.caller c.in-Answered.number c.in-Answered.answer entries.1 c.in-Answered.ensures.admits)

pub returns-in-Admitted : goal.returns-in-Admitted
returns-in-Admitted g c = λ decls granted seen is.
    let old = c.args.self.now in
    let here = run_setting g.D.Disk.disk decls old.limit granted in
    admission_begins here (c.scene_is_carried.ensures decls old.limit granted is.decls) c.snapshot_stays_at_front.ensures
    (c.admit_is_event.ensures decls (declared_kind decls) old.limit granted) seen old (record old { place = Up c.admit.new.self }) c.keep.new.self c.in-Up.hub c.admit.new.self
    is c.in-Up.is (subst (λ p. IsNotReconciling p) c.in-Up.is c.requires.sound.1) c.in-Admitted.ensures.kept refl refl refl refl refl c.args.t
    (so_there (λ hub. IsNextToAdmit hub.active hub.waiting c.args.t) old.place c.in-Up.hub c.in-Up.is c.requires.next) c.args.out.now c.args.out.now
    c.in-Admitted.t c.in-Admitted.ensures.admits c.keep.ensures.kept refl

pub returns-in-Answered : goal.returns-in-Answered
returns-in-Answered g c = λ decls granted seen is.
    let old = c.args.self.now in
    let here = run_setting g.D.Disk.disk decls old.limit granted in
    let middle = record old { place = Up c.admit.new.self } in
    admission_answers here (c.scene_is_carried.ensures decls old.limit granted is.decls) c.snapshot_stays_at_front.ensures
    (c.admit_is_event.ensures decls (declared_kind decls) old.limit granted) seen old middle c.not_admitted.new.self c.in-Up.hub c.admit.new.self
    is c.in-Up.is (subst (λ p. IsNotReconciling p) c.in-Up.is c.requires.sound.1) c.in-Answered.ensures.kept refl refl refl refl refl c.args.t
    (so_there (λ hub. IsNextToAdmit hub.active hub.waiting c.args.t) old.place c.in-Up.hub c.in-Up.is c.requires.next) c.args.out.now c.not_admitted.new.out
    c.in-Answered.caller c.in-Answered.number c.in-Answered.answer c.not_admitted.result c.in-Answered.ensures.admits
    (as_declared here seen old c.in-Up.hub c.admit.new.self is c.in-Up.is c.in-Answered.ensures.kept
    (λ (d : Decls). ConcludesAnswer d.names middle c.in-Answered.caller c.in-Answered.number c.in-Answered.answer (event.Admit c.args.t (Some c.in-Answered.answer))
    c.args.out.now c.not_admitted.result c.not_admitted.new.self c.not_admitted.new.out) c.not_admitted.ensures)

pub returns-in-Full : goal.returns-in-Full
returns-in-Full g c = λ decls granted seen is.
    let old = c.args.self.now in
    let here = run_setting g.D.Disk.disk decls old.limit granted in
    admission_full here (c.scene_is_carried.ensures decls old.limit granted is.decls) c.snapshot_stays_at_front.ensures
    (c.admit_is_event.ensures decls (declared_kind decls) old.limit granted) seen old (record old { place = Up c.admit.new.self }) c.full.new.self c.in-Up.hub c.admit.new.self
    is c.in-Up.is (subst (λ p. IsNotReconciling p) c.in-Up.is c.requires.sound.1) c.in-Full.ensures.kept refl refl refl refl refl c.args.t
    (so_there (λ hub. IsNextToAdmit hub.active hub.waiting c.args.t) old.place c.in-Up.hub c.in-Up.is c.requires.next) c.args.out.now c.args.out.now
    c.in-Full.len c.in-Full.ensures.admits c.full.ensures.state refl c.full.result c.full.ensures.why

pub unreachable-requires-in_default : goal.unreachable-requires-in_default
unreachable-requires-in_default g c = never_else c.args.self.now.place c.in_default.not-Up _ c.requires.next
