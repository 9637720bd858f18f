use Rattle.std.proofs.Common.{◌≡◌, subst}
use Rattle.std.specs.Prelude.{None}
use Rattle.orc_device.specs.declared.op.Op.{Op}
use Rattle.orc_device.specs.Nodes.{op_refusal}
use Rattle.orc_node.specs.Kinds.{device_kind}
use Rattle.orc_node.proofs.Edits.{edit_fits}
use Rattle.orc_node.proofs.node.Node.carry_out.Goals as goal

pub edit-requires : goal.edit-requires
edit-requires c = record {
  fits = edit_fits c.args.self.now.accept c.args.self.now.state c.args.session c.in-Edit.set
      (subst (λ (op : Op). op_refusal (device_kind c.args.self.now.accept) c.args.self.now.state c.args.session op ≡ None) c.in-Edit.is c.requires);
}
