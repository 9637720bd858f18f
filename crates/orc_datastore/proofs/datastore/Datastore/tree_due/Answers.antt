use Rattle.std.proofs.Common.{◌∙◌}
use Rattle.orc_datastore.proofs.Placing.{tree-of}
use Rattle.orc_datastore.proofs.datastore.Datastore.tree_due.Goals as goal

pub returns : goal.returns
returns c =
    c.tree.ensures.tree
    ∙ tree-of c.store_is_overlay.ensures c.args.self.now c.self.inside.data c.self.inside.stores c.as_slice.result.now c.self.inside.live c.args.device
    c.index-as_slice-device.result c.self.view_is c.self.invariant.0 c.names_differ.ensures c.as_slice.ensures c.requires c.index-as_slice-device.is
