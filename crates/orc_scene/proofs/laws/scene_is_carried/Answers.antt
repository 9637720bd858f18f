use Rattle.orc_rules.specs.Acceptance.{declared_kind}
use Rattle.orc_scene.proofs.laws.scene_is_carried.Goals as goal

pub returns : goal.returns
returns g c = λ decls limit granted are. c.runs_are_carried.ensures decls (declared_kind decls) limit granted are (record {
  of_hub = λ device. (c.devices_are_as_declared.ensures decls device are).0;
  of_schema = λ device. (c.devices_are_as_declared.ensures decls device are).1;
  accept_base = λ device. (c.devices_are_as_declared.ensures decls device are).2;
})
