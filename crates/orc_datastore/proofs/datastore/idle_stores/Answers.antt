use Rattle.std.proofs.Common.{◌≡◌, ◌+◌, ◌++◌, ◌∷◌, [], All, map, take, sym, subst, ap, ◌∙◌}
use Rattle.std.proofs.lemmas.List.{map-append, take_more}
use Rattle.orc_decls.specs.declared.declarations.Device.{Device}
use Rattle.orc_decls.specs.Openings.{declared_base}
use Rattle.orc_datastore.specs.inside.Keeping.{IsStoreFor}
use Rattle.orc_datastore.proofs.Openings.{more-bases, one-more}
use Rattle.orc_datastore.proofs.datastore.idle_stores.Goals as goal

pub loop-device-preserved : goal.loop-device-preserved
loop-device-preserved c =
    let more : map declared_base (take (c.loop-device.device-index + 1) c.args.devices.now)
    ≡ map declared_base (take c.loop-device.device-index c.args.devices.now) ++ declared_base c.device-item.result ∷ [] =
    ap (map declared_base) (take_more c.args.devices.now c.loop-device.device-index c.device-item.result c.loop-device-test.true
    ∙ ap (λ (d : Device). take c.loop-device.device-index c.args.devices.now ++ d ∷ []) (sym c.device-item.is))
    ∙ map-append declared_base (take c.loop-device.device-index c.args.devices.now) (c.device-item.result ∷ []) in
    record {
      bases = more-bases c.loop-device.stores c.push.new.self c.in_ok-idle_store.field-0
          (map declared_base (take c.loop-device.device-index c.args.devices.now)) (declared_base c.device-item.result)
          c.loop-device.invariant.bases c.in_ok-idle_store.ensures.base c.in_ok-push.ensures.ok ∙ sym more;
      idle = subst (All (IsStoreFor [] 0)) (sym c.in_ok-push.ensures.ok)
          (one-more c.loop-device.stores c.in_ok-idle_store.field-0 c.loop-device.invariant.idle c.in_ok-idle_store.ensures.idle);
    }
