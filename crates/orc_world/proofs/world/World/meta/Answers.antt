use Rattle.std.proofs.Common.{refl, length, nat_lt}
use Rattle.orc_decls.specs.Calls.{schema_named}
use Rattle.orc_decls.specs.Devices.{name_of}
use Rattle.orc_script.specs.Places.{is_node_path}
use Rattle.orc_script.specs.declared.step.ScriptStep.TheVariants as step
use Rattle.orc_world.specs.inside.Shown.{ShowsMetaOf}
use Rattle.orc_scene.specs.Stands.{decls_in, run_setting}
use Rattle.orc_world.proofs.Showings.{allowed_first, meta_line}
use Rattle.orc_world.proofs.Allowed.{device_within}
use Rattle.orc_world.proofs.Showings.{said_line}
use Rattle.orc_world.proofs.world.World.meta.Goals as goal

pub meta_text-requires-clause-device : goal.meta_text-requires-clause-device
meta_text-requires-clause-device g c =
    device_within g.D.Disk.disk c.args.self.now.scene c.args.device c.requires.sound.0
    (allowed_first (decls_in c.args.self.now.scene.place) (λ d. nat_lt c.args.device (length d.names))
    (λ d. is_node_path (schema_named d.schemas d.devices (name_of d.names c.args.device)) c.args.path.now) c.requires.allowed)

pub returns : goal.returns
returns g c = λ decls granted seen is may.
    let here = run_setting g.D.Disk.disk decls c.args.self.now.scene.limit granted in
    said_line here (step.Meta c.args.device c.args.path.now) seen c.args.self.now.scene c.args.out.now c.say.new.out c.meta_text.result c.say.result
    (ShowsMetaOf c.args.self.now.scene c.args.device c.args.path.now) c.meta_text.ensures c.say.ensures is refl
    (λ text shows printed. meta_line here seen c.args.self.now.scene c.args.device c.args.path.now c.args.out.now c.say.new.out text is c.requires.sound.1 shows printed)
