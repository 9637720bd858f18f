use Rattle.std.proofs.Common.{inl, inr, refl}
use Rattle.orc_scene.proofs.Beginnings.{has_begun}
use Rattle.orc_scene.proofs.scene.Scene.open.Goals as goal

pub returns-in-Ok-over-clause-begun : goal.returns-in-Ok-over-clause-begun
returns-in-Ok-over-clause-begun g c =
    has_begun g.D.Disk.disk c.args.bundle.decls c.args.disk c.args.limit c.requires.decls c.requires.short c.requires.limit c.scene_is_carried.ensures
    c.devices_are_as_declared.ensures c.in-Ok.links c.in-Ok-over.world c.in-Ok-over.ensures.begun c.in-Ok.ensures.links c.in-Ok.ensures.logs

pub returns-in-Err-over-clause-refused : goal.returns-in-Err-over-clause-refused
returns-in-Err-over-clause-refused g c = inl c.in-Err-over.ensures.refused

pub returns-in-Err-clause-refused : goal.returns-in-Err-clause-refused
returns-in-Err-clause-refused g c = inr (refl, refl)
