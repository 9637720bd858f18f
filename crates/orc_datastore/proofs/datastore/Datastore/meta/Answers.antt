use Rattle.orc_datastore.proofs.Writers.{meta-of}
use Rattle.orc_datastore.proofs.datastore.Datastore.meta.Goals as goal

pub returns : goal.returns
returns c =
    meta-of c.args.self.now c.self.inside.data c.self.inside.stores c.as_slice.result.now c.self.inside.live c.args.device
    c.index-as_slice-device.result c.args.path.now c.meta.result c.self.view_is c.self.invariant.0 c.names_differ.ensures c.as_slice.ensures c.requires
    c.index-as_slice-device.is c.meta.ensures.none c.meta.ensures.count c.meta.ensures.back c.meta.ensures.original
