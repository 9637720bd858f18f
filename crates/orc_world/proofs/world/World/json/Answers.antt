use Rattle.std.proofs.Common.{refl, length, nat_lt, not}
use Rattle.orc_decls.specs.Calls.{schema_named}
use Rattle.orc_decls.specs.Devices.{name_of}
use Rattle.orc_script.specs.declared.step.ScriptStep.TheVariants as step
use Rattle.orc_world.specs.inside.Shown.{ShowsJsonOf}
use Rattle.orc_scene.specs.Stands.{decls_in, run_setting}
use Rattle.orc_world.proofs.Showings.{allowed_first, json_line}
use Rattle.orc_world.proofs.Allowed.{device_within}
use Rattle.orc_world.proofs.Showings.{said_line}
use Rattle.orc_world.proofs.world.World.json.Goals as goal

pub json_text-requires-clause-device : goal.json_text-requires-clause-device
json_text-requires-clause-device g c =
    device_within g.D.Disk.disk c.args.self.now.scene c.args.device c.requires.sound.0
    (allowed_first (decls_in c.args.self.now.scene.place) (λ d. nat_lt c.args.device (length d.names))
    (λ d. not (schema_named d.schemas d.devices (name_of d.names c.args.device)).plain) c.requires.allowed)

pub returns : goal.returns
returns g c = λ decls granted seen is may.
    let here = run_setting g.D.Disk.disk decls c.args.self.now.scene.limit granted in
    said_line here (step.Json c.args.device) seen c.args.self.now.scene c.args.out.now c.say.new.out c.json_text.result c.say.result
    (ShowsJsonOf c.args.self.now.scene c.args.device) c.json_text.ensures c.say.ensures is refl
    (λ text shows printed. json_line here seen c.args.self.now.scene c.args.device c.args.out.now c.say.new.out text is c.requires.sound.1 shows printed)
