use Rattle.std.specs.Option.{option_copied}
use Rattle.orc_call.proofs.Grammars.{handed_on}
use Rattle.orc_call.proofs.Sequels.{first_fails, later_fails}
use Rattle.orc_call.proofs.Determined.{put_sequel, path_determined}
use Rattle.orc_call.proofs.parts.put_at.Goals as goal

pub returns-in_err-path : goal.returns-in_err-path
returns-in_err-path c =
    let before = option_copied c.args.before in
    handed_on _ c.args.bytes.now _ c.in_err-path.field-0.0 c.from_residual.ensures.1
    (first_fails _ _ _ _ (put_sequel before) c.args.bytes.now c.in_err-path.field-0.0 c.in_err-path.ensures.reads)

pub returns-in_err-item : goal.returns-in_err-item
returns-in_err-item c =
    let before = option_copied c.args.before in
    handed_on _ c.args.bytes.now _ c.in_err-item.field-0.0 c.from_residual-in_err-item.ensures.1
    (later_fails _ _ _ _ (put_sequel before) (path_determined before) c.args.bytes.now c.in_ok-path.path c.in_ok-path.rest.now c.in_err-item.field-0.0 c.in_ok-path.ensures.reads c.in_err-item.ensures.reads)
