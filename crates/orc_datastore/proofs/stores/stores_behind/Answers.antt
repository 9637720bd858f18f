use Rattle.std.proofs.Common.{rules, ◌≡◌, ◌<◌, length, refl, arith}
use Rattle.std.specs.declared.result.Result.TheVariants.{Ok, Err}
use Rattle.std.proofs.lemmas.Option.{slice_get_read}
use Rattle.orc_datastore.proofs.Devices.{all-clear, change-here, clash-here, first-clash, none-yet, one-more}
use Rattle.orc_datastore.proofs.stores.stores_behind.Goals as goal

pub loop-device-init : goal.loop-device-init
loop-device-init c = none-yet c.args.decls.now.names c.args.live.now c.args.actions.now c.args.stores.now _ c.new-changes.ensures

pub change_of-requires-clause-stays : goal.change_of-requires-clause-stays
change_of-requires-clause-stays c =
    let lt : c.loop-device.device < length c.args.stores.now = search rules in
    λ off. c.requires.stays c.loop-device.device (omega (arith, lt, c.requires.count)) off

pub change_of-requires-clause-store : goal.change_of-requires-clause-store
change_of-requires-clause-store c =
    let lt : c.loop-device.device < length c.args.stores.now = search rules in
    c.requires.kept.each c.loop-device.device c.index-stores-device.result
    (slice_get_read c.args.stores.now _ c.loop-device.device c.index-stores-device.result refl lt c.index-stores-device.is)

pub returns-in-Err : goal.returns-in-Err
returns-in-Err c =
    let lt : c.loop-device.device < length c.args.stores.now = search rules in
    let is : c.in_ok-change.field-0 ≡ Err c.in-Err.answer = search rules in
    first-clash c.args.decls.now.names c.args.live.now c.args.actions.now c.args.stores.now c.loop-device.changes c.loop-device.device c.in-Err.answer
    (omega (arith, lt, c.requires.count)) c.loop-device.invariant
    (clash-here c.args.decls.now.names c.args.live.now c.args.actions.now c.loop-device.device c.index-stores-device.result c.in_ok-change.field-0 c.in-Err.answer
    c.in_ok-change.ensures is)

pub loop-device-preserved : goal.loop-device-preserved
loop-device-preserved c =
    let lt : c.loop-device.device < length c.args.stores.now = search rules in
    let is : c.in_ok-change.field-0 ≡ Ok c.in-Ok.change = search rules in
    one-more c.args.decls.now.names c.args.live.now c.args.actions.now c.args.stores.now c.loop-device.changes c.push.new.self c.loop-device.device
    c.index-stores-device.result c.in-Ok.change c.requires.call c.loop-device.invariant
    (slice_get_read c.args.stores.now _ c.loop-device.device c.index-stores-device.result refl lt c.index-stores-device.is)
    (change-here c.args.decls.now.names c.args.live.now c.args.actions.now c.loop-device.device c.index-stores-device.result c.in_ok-change.field-0 c.in-Ok.change
    c.in_ok-change.ensures is)
    c.in_ok-push-in-Ok.ensures.ok

pub returns : goal.returns
returns c =
    let done : c.loop-device.device ≡ length c.args.stores.now = search rules in
    all-clear c.args.decls.now.names c.args.live.now c.args.actions.now c.args.stores.now c.loop-device.changes c.loop-device.device c.requires.count done
    c.loop-device.invariant
