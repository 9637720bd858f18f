use Rattle.std.proofs.Common.{◌≡◌, [], All, map, take}
use Rattle.orc_refs.specs.Stores.{Store}
use Rattle.orc_decls.specs.Openings.{declared_base}
use Rattle.orc_datastore.specs.inside.Keeping.{IsStoreFor}
use Rattle.orc_datastore.proofs.datastore.idle_stores.Given as goal

-- the stores so far
abbrev pub invariant-loop-device : goal.invariant-loop-device
invariant-loop-device l = record {
  bases : map (λ (store : Store). store.base) l.stores ≡ map declared_base (take l.device-index l.devices);
  idle : All (IsStoreFor [] 0) l.stores;
}
