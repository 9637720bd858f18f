use Rattle.orc_call.proofs.Grammars.{handed_on}
use Rattle.orc_call.proofs.Sequels.{renamed_fails}
use Rattle.orc_call.proofs.ActionKinds.{create_renamed, modify_renamed, redeploy_renamed, delete_renamed, set_renamed, unset_renamed, base_put_renamed, base_remove_renamed, literal_renamed}
use Rattle.orc_call.proofs.actions.content_at.Goals as goal

pub returns-in_err-service-in-1 : goal.returns-in_err-service-in-1
returns-in_err-service-in-1 c =
    let e = c.in_err-service-in-1.field-0.0 in
    handed_on _ c.args.bytes.now _ e c.from_residual.ensures.1 (rw c.in-1.is (renamed_fails _ _ _ create_renamed c.args.bytes.now e c.in_err-service-in-1.ensures))

pub returns-in_err-service-in-2 : goal.returns-in_err-service-in-2
returns-in_err-service-in-2 c =
    let e = c.in_err-service-in-2.field-0.0 in
    handed_on _ c.args.bytes.now _ e c.from_residual-in_err-service-in-2.ensures.1 (rw c.in-2.is (renamed_fails _ _ _ modify_renamed c.args.bytes.now e c.in_err-service-in-2.ensures))

pub returns-in_err-service-in-3 : goal.returns-in_err-service-in-3
returns-in_err-service-in-3 c =
    let e = c.in_err-service-in-3.field-0.0 in
    handed_on _ c.args.bytes.now _ e c.from_residual-in_err-service-in-3.ensures.1 (rw c.in-3.is (renamed_fails _ _ _ redeploy_renamed c.args.bytes.now e c.in_err-service-in-3.ensures.reads))

pub returns-in_err-service-in-4 : goal.returns-in_err-service-in-4
returns-in_err-service-in-4 c =
    let e = c.in_err-service-in-4.field-0.0 in
    handed_on _ c.args.bytes.now _ e c.from_residual-in_err-service-in-4.ensures.1 (rw c.in-4.is (renamed_fails _ _ _ delete_renamed c.args.bytes.now e c.in_err-service-in-4.ensures.reads))

pub returns-in_err-put-in-5 : goal.returns-in_err-put-in-5
returns-in_err-put-in-5 c =
    let e = c.in_err-put-in-5.field-0.0 in
    handed_on _ c.args.bytes.now _ e c.from_residual-in_err-put-in-5.ensures.1 (rw c.in-5.is (renamed_fails _ _ _ set_renamed c.args.bytes.now e c.in_err-put-in-5.ensures))

pub returns-in_err-path-in-6 : goal.returns-in_err-path-in-6
returns-in_err-path-in-6 c =
    let e = c.in_err-path-in-6.field-0.0 in
    handed_on _ c.args.bytes.now _ e c.from_residual-in_err-path-in-6.ensures.1 (rw c.in-6.is (renamed_fails _ _ _ unset_renamed c.args.bytes.now e c.in_err-path-in-6.ensures.reads))

pub returns-in_err-put-in-7 : goal.returns-in_err-put-in-7
returns-in_err-put-in-7 c =
    let e = c.in_err-put-in-7.field-0.0 in
    handed_on _ c.args.bytes.now _ e c.from_residual-in_err-put-in-7.ensures.1 (rw c.in-7.is (renamed_fails _ _ _ base_put_renamed c.args.bytes.now e c.in_err-put-in-7.ensures))

pub returns-in_err-device-in-8 : goal.returns-in_err-device-in-8
returns-in_err-device-in-8 c =
    let e = c.in_err-device-in-8.field-0.0 in
    handed_on _ c.args.bytes.now _ e c.from_residual-in_err-device-in-8.ensures.1 (rw c.in-8.is (renamed_fails _ _ _ base_remove_renamed c.args.bytes.now e c.in_err-device-in-8.ensures))

pub returns-in_err-name-in-9 : goal.returns-in_err-name-in-9
returns-in_err-name-in-9 c =
    let e = c.in_err-name-in-9.field-0.0 in
    handed_on _ c.args.bytes.now _ e c.from_residual-in_err-name-in-9.ensures.1 (rw c.in-9.is (renamed_fails _ _ _ literal_renamed c.args.bytes.now e c.in_err-name-in-9.ensures))
