use Rattle.std.proofs.Common.{Bor, codes, ap, sym, subst}
use Rattle.std.specs.Option.{unwrap_or}
use Rattle.serde_json.specs.Data.{Data, null}
use Rattle.serde_json.specs.Find.{get}
use Rattle.serde_json.specs.View.{view}
use Rattle.serde_json.specs.declared.value.Value.{Value, Null}
use Rattle.orc_template.specs.Devices.{device_of}
use Rattle.orc_template.specs.Expansions.{on_device}
use Rattle.orc_template.specs.inside.Machine.{ground}
use Rattle.orc_template.specs.inside.Expanding.{expanding_of, Stops}
use Rattle.std.proofs.Common.{List, ℕ}
use Rattle.orc_template.proofs.Forms.{mapped_some, mapped_none}
use Rattle.orc_template.proofs.Fors.{view-Null}
use Rattle.orc_template.proofs.Targets.{name_fails, name_goes_on}
use Rattle.orc_template.proofs.expanding.do_device.Goals as goal

pub returns-in_err-name : goal.returns-in_err-name
returns-in_err-name g c =
    name_fails (ground (g.V.DataView.viewed c.args.view.now) c.args.devices.now) c.args.here.now (view c.args.block.now) c.args.device.now (expanding_of c.args.expanding.now) c.fill.new.reads.reads c.from_residual.result
    c.in_err-name.field-0.0 c.from_residual.ensures.1 c.in_err-name.ensures

pub returns-in-Some : goal.returns-in-Some
returns-in-Some g c =
    let gr = ground (g.V.DataView.viewed c.args.view.now) c.args.devices.now in
    let d = view c.args.block.now in
    let config = view c.in-Some.config.now in
    let found = mapped_some (λ (v : Bor Value). view v.now) c.get.result (get (codes "config") d) c.in-Some.config c.get.ensures c.in-Some.is in
    name_goes_on gr c.args.here.now d c.args.device.now (expanding_of c.args.expanding.now) c.fill.new.reads.reads c.in_ok-name.name config (expanding_of c.do_name.new.expanding) c.do_name.result c.in_ok-name.ensures
    (sym (ap (λ o. unwrap_or o null) found))
    (subst (λ (n : List ℕ). Stops (on_device gr c.args.here.now config (device_of n c.args.devices.now.names) (expanding_of (record { written = c.args.expanding.now.written; reads = c.fill.new.reads }))) (expanding_of c.do_name.new.expanding) c.do_name.result)
    c.as_str.ensures c.do_name.ensures)

pub returns : goal.returns
returns g c =
    let gr = ground (g.V.DataView.viewed c.args.view.now) c.args.devices.now in
    let d = view c.args.block.now in
    let e = expanding_of (record { written = c.args.expanding.now.written; reads = c.fill.new.reads }) in
    let new = expanding_of c.do_name-in-None.new.expanding in
    let found = mapped_none (λ (v : Bor Value). view v.now) c.get.result (get (codes "config") d) c.get.ensures c.in-None.is in
    name_goes_on gr c.args.here.now d c.args.device.now (expanding_of c.args.expanding.now) c.fill.new.reads.reads c.in_ok-name.name null new c.do_name-in-None.result c.in_ok-name.ensures
    (sym (ap (λ o. unwrap_or o null) found))
    (subst (λ (x : Data). Stops (on_device gr c.args.here.now x (device_of c.in_ok-name.name c.args.devices.now.names) e) new c.do_name-in-None.result) view-Null
    (subst (λ (n : List ℕ). Stops (on_device gr c.args.here.now (view Null) (device_of n c.args.devices.now.names) e) new c.do_name-in-None.result) c.as_str-in-None.ensures c.do_name-in-None.ensures))
