use Rattle.std.proofs.Common.{ap, refl, true, ◌≡◌, ◌∙◌}
use Rattle.std.specs.Prelude.{is_some}
use Rattle.orc_hub.specs.Hubs.{record_of}
use Rattle.orc_rules.specs.Worlds.{IsIdle}
use Rattle.orc_scene.specs.declared.scene.Place.TheVariants.{Up}
use Rattle.orc_scene.proofs.Finishing.{hub_sound, hub_up, mending_begun, mending_unbegun, there_up, up_there}
use Rattle.orc_scene.proofs.scene.Scene.begin_mending.Goals as goal

pub begin_reconcile-requires-clause-hub : goal.begin_reconcile-requires-clause-hub
begin_reconcile-requires-clause-hub g c = hub_sound g.D.Disk.disk c.args.self.now c.in-Up.hub c.requires.sound.0 c.in-Up.is

pub begin_reconcile-requires-clause-up : goal.begin_reconcile-requires-clause-up
begin_reconcile-requires-clause-up g c = hub_up g.D.Disk.disk c.args.self.now c.in-Up.hub c.requires.sound.0 c.in-Up.is

pub begin_reconcile-requires-clause-idle : goal.begin_reconcile-requires-clause-idle
begin_reconcile-requires-clause-idle g c = there_up (λ hub. IsIdle (record_of hub)) c.args.self.now.place c.in-Up.hub c.in-Up.is c.requires.idle

pub returns-in-Ok : goal.returns-in-Ok
returns-in-Ok g c = record {
  turn = mending_begun g.D.Disk.disk c.scene_is_carried.ensures c.snapshot_stays_at_front.ensures c.mending_begins.ensures c.args.self.now c.keep.new.self
      c.in-Up.hub c.begin_reconcile.new.self c.in-Up.is (there_up (λ hub. IsIdle (record_of hub)) c.args.self.now.place c.in-Up.hub c.in-Up.is c.requires.idle)
      c.in-Ok.ensures.ok c.keep.ensures.kept;
  begun = up_there (λ hub. is_some hub.mends ≡ true) c.keep.new.self.place _ (c.keep.ensures.kept.place ∙ ap (λ hub. Up hub) c.in-Ok.ensures.ok) refl;
}

pub returns-in-Err : goal.returns-in-Err
returns-in-Err g c = record {
  turn = mending_unbegun g.D.Disk.disk c.scene_is_carried.ensures c.snapshot_stays_at_front.ensures c.mending_begins.ensures c.args.self.now _
      c.in-Up.hub c.begin_reconcile.new.self c.in-Up.is c.in-Err.ensures.err refl;
  begun = tt;
}
