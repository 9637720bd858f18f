use Rattle.std.proofs.Common.{ap, is_some, subst, sym, ◌∙◌}
use Rattle.orc_rules.specs.Acceptance.{declared_kind}
use Rattle.orc_scene.specs.Effects.{hub_in}
use Rattle.orc_scene.specs.Stands.{run_setting}
use Rattle.orc_scene.specs.inside.Effects.{IsClosed}
use Rattle.orc_scene.proofs.Reopened.{closed_there, decls_down, ends_into, opened_into}
use Rattle.orc_scene.proofs.scene.Scene.open_again.Goals as goal

pub into_closed-disk-requires : goal.into_closed-disk-requires
into_closed-disk-requires g c = subst (λ p. IsClosed p) (sym c.replace.ensures.value) (closed_there g.D.Disk.disk c.args.self.now c.requires.sound c.requires.down)

pub start_again-requires-clause-decls : goal.start_again-requires-clause-decls
start_again-requires-clause-decls g c =
    (decls_down g.D.Disk.disk c.args.self.now c.requires.sound c.into_closed-disk.result.0 c.into_closed-disk.result.1 (sym c.replace.ensures.value ∙ c.into_closed-disk.ensures)).0

pub start_again-requires-clause-short : goal.start_again-requires-clause-short
start_again-requires-clause-short g c =
    (decls_down g.D.Disk.disk c.args.self.now c.requires.sound c.into_closed-disk.result.0 c.into_closed-disk.result.1 (sym c.replace.ensures.value ∙ c.into_closed-disk.ensures)).1

pub start_again-requires-clause-limit : goal.start_again-requires-clause-limit
start_again-requires-clause-limit g c = c.requires.sound.3.limit.1

pub returns-in-Ok-clause-opens : goal.returns-in-Ok-clause-opens
returns-in-Ok-clause-opens g c = λ decls granted seen is denied.
    let old = c.args.self.now in
    opened_into (run_setting g.D.Disk.disk decls old.limit granted) (c.scene_is_carried.ensures decls old.limit granted is.decls) g.met.D.Disk.counts
    seen old c.into_closed-disk.result.0 c.into_closed-disk.result.1 is (sym c.replace.ensures.value ∙ c.into_closed-disk.ensures) (c.start_is_recovery.ensures decls (declared_kind decls) old.limit granted) denied c.in-Ok.hub c.in-Ok.ensures.started
    _ c.replace-in-Ok.ensures.after

pub returns-in-Ok-clause-up : goal.returns-in-Ok-clause-up
returns-in-Ok-clause-up g c = ap (λ p. is_some (hub_in p)) c.replace-in-Ok.ensures.after

pub returns-in-Err-clause-opens : goal.returns-in-Err-clause-opens
returns-in-Err-clause-opens g c = λ decls granted seen is denied.
    let old = c.args.self.now in
    ends_into (run_setting g.D.Disk.disk decls old.limit granted) (c.scene_is_carried.ensures decls old.limit granted is.decls) g.met.D.Disk.counts
    seen old c.into_closed-disk.result.0 c.into_closed-disk.result.1 is (sym c.replace.ensures.value ∙ c.into_closed-disk.ensures) (c.refusal_stays_down.ensures decls (declared_kind decls) old.limit granted)
    (c.opening_stays_down.ensures decls (declared_kind decls) old.limit granted) c.in-Err.stop c.in-Err.disk c.in-Err.ensures.refused _ c.replace-in-Err.ensures.after
