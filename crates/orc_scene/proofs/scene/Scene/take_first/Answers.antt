use Rattle.std.proofs.Common.{refl, sym, ◌∙◌}
use Rattle.orc_scene.proofs.Firsts.{first_down, first_has, first_takes, front_down, front_found, front_there, takes_so}
use Rattle.orc_scene.proofs.scene.Scene.take_first.Goals as goal

pub returns-then-not-is_up-clause-row : goal.returns-then-not-is_up-clause-row
returns-then-not-is_up-clause-row g c = first_down g.D.Disk.disk c.args.self.now c.args.caller.now (sym c.is_up.ensures ∙ c.if-not-is_up.true)

pub returns-then-not-is_up-clause-taken : goal.returns-then-not-is_up-clause-taken
returns-then-not-is_up-clause-taken g c = front_down c.args.self.now.place _ (sym c.is_up.ensures ∙ c.if-not-is_up.true)

pub returns-then-not-is_up-clause-place : goal.returns-then-not-is_up-clause-place
returns-then-not-is_up-clause-place g c = refl

pub returns-then-is_some-clause-row : goal.returns-then-is_some-clause-row
returns-then-is_some-clause-row g c =
    first_has g.D.Disk.disk c.args.self.now c.args.caller.now
    (front_found c.of.result (λ one. one.now) c.args.caller.now c.args.self.now.snapshots.taken c.of.ensures ∙ sym c.is_some.ensures ∙ c.if-is_some.true)

pub returns-then-is_some-clause-taken : goal.returns-then-is_some-clause-taken
returns-then-is_some-clause-taken g c =
    front_there c.args.self.now.place _
    (front_found c.of.result (λ one. one.now) c.args.caller.now c.args.self.now.snapshots.taken c.of.ensures ∙ sym c.is_some.ensures ∙ c.if-is_some.true)

pub returns-then-is_some-clause-place : goal.returns-then-is_some-clause-place
returns-then-is_some-clause-place g c = refl

pub take_new-requires-clause-sound : goal.take_new-requires-clause-sound
take_new-requires-clause-sound g c = c.requires

pub take_new-requires-clause-up : goal.take_new-requires-clause-up
take_new-requires-clause-up g c = sym c.is_up.ensures ∙ c.if-not-is_up.false

pub returns-clause-row : goal.returns-clause-row
returns-clause-row g c =
    first_takes g.D.Disk.disk c.args.self.now c.take_new.new.self c.args.caller.now
    (front_found c.of.result (λ one. one.now) c.args.caller.now c.args.self.now.snapshots.taken c.of.ensures ∙ sym c.is_some.ensures ∙ c.if-is_some.false)
    c.take_new.result c.take_new.ensures.turn

pub returns-clause-taken : goal.returns-clause-taken
returns-clause-taken g c = takes_so c.take_new.new.self c.args.caller.now c.take_new.result c.take_new.ensures.taken

pub returns-clause-place : goal.returns-clause-place
returns-clause-place g c = c.take_new.ensures.place
