use Rattle.std.proofs.Common.{IsTrue, ap, length, refl, subst, sym, ◌∙◌}
use Rattle.orc_decls.specs.declared.declarations.Decls.{Decls}
use Rattle.orc_print.specs.Printed.{is_answer_among}
use Rattle.orc_scene.proofs.Turning.{never_else, sound_there}
use Rattle.orc_scene.proofs.Firsts.{answered_turn, known_there, queued_turn}
use Rattle.orc_scene.proofs.scene.Scene.submit_on.Goals as goal

pub submit-requires-clause-hub : goal.submit-requires-clause-hub
submit-requires-clause-hub g c = sound_there g.D.Disk.disk c.args.self.now c.in-Up.hub c.requires.sound.0 c.in-Up.is

pub submit-requires-clause-call : goal.submit-requires-clause-call
submit-requires-clause-call g c = (known_there c.args.self.now c.in-Up.hub c.in-Up.is c.args.call c.args.front c.args.plan c.requires.planned).0

pub submit-requires-clause-front : goal.submit-requires-clause-front
submit-requires-clause-front g c = λ up. (known_there c.args.self.now c.in-Up.hub c.in-Up.is c.args.call c.args.front c.args.plan c.requires.planned).2

pub submit-requires-clause-plan : goal.submit-requires-clause-plan
submit-requires-clause-plan g c = λ up. (known_there c.args.self.now c.in-Up.hub c.in-Up.is c.args.call c.args.front c.args.plan c.requires.planned).3

pub submitted-requires-clause-named : goal.submitted-requires-clause-named
submitted-requires-clause-named g c =
    subst (λ (d : Decls). IsTrue (is_answer_among (length d.names) c.in-Answered.said)) (sym c.in-Answered.ensures.kept.decls)
    (c.submissions_are_named.ensures c.in-Up.hub c.submit.new.self c.args.call c.args.front c.args.plan c.in-Answered.said c.in-Answered.ensures.submits)

pub returns-in-Queued : goal.returns-in-Queued
returns-in-Queued g c =
    queued_turn g.D.Disk.disk c.scene_is_carried.ensures c.snapshot_stays_at_front.ensures c.submit_is_event.ensures c.args.self.now c.keep.new.self c.in-Up.hub c.submit.new.self c.in-Up.is
    c.in-Queued.ensures.kept c.args.call c.args.kept c.requires.same c.args.front c.args.plan c.requires.planned c.keep.ensures.kept.limit c.keep.ensures.kept.place c.keep.ensures.kept.links
    (ap (λ s. s.taken) c.keep.ensures.kept.snapshots ∙ c.drop_of.ensures) c.args.out.now c.args.out.now c.in-Queued._t c.in-Queued.ensures.submits c.keep.ensures.kept.events_are refl

pub returns-in-Answered : goal.returns-in-Answered
returns-in-Answered g c =
    answered_turn g.D.Disk.disk c.scene_is_carried.ensures c.snapshot_stays_at_front.ensures c.submit_is_event.ensures c.args.self.now c.submitted.new.self c.in-Up.hub c.submit.new.self c.in-Up.is
    c.in-Answered.ensures.kept c.args.call c.args.kept c.requires.same c.args.front c.args.plan c.requires.planned c.submitted.ensures.state.limit c.submitted.ensures.state.place
    c.submitted.ensures.state.links (ap (λ s. s.taken) c.submitted.ensures.state.snapshots ∙ c.drop_of.ensures) c.args.out.now c.submitted.new.out c.in-Answered.said c.in-Answered.ensures.submits
    c.submitted.ensures.state.events_are c.submitted.result c.submitted.ensures.said

pub unreachable-requires : goal.unreachable-requires
unreachable-requires g c = never_else c.args.self.now.place c.in_default.not-Up _ c.requires.planned
