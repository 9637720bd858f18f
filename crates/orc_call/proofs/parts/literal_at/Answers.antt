use Rattle.orc_call.proofs.Grammars.{handed_on}
use Rattle.orc_call.proofs.Sequels.{first_fails, later_fails}
use Rattle.orc_call.proofs.Determined.{literal_sequel, counted_writes_sequel, text_determined, item_count_determined}
use Rattle.orc_call.proofs.parts.literal_at.Goals as goal

pub returns-in_err-name : goal.returns-in_err-name
returns-in_err-name c =
    let e = c.in_err-name.field-0.0 in
    handed_on _ c.args.bytes.now _ e c.from_residual.ensures.1 (first_fails _ _ _ _ literal_sequel c.args.bytes.now e c.in_err-name.ensures.reads)

pub returns-in_err-count : goal.returns-in_err-count
returns-in_err-count c =
    let e = c.in_err-count.field-0.0 in
    let rest = c.in_ok-name.rest.now in
    handed_on _ c.args.bytes.now _ e c.from_residual-in_err-count.ensures.1
    (later_fails _ _ _ _ literal_sequel text_determined c.args.bytes.now c.in_ok-name.name rest e c.in_ok-name.ensures.reads
    (first_fails _ _ _ _ counted_writes_sequel rest e c.in_err-count.ensures.reads))

pub returns-in_err-writes : goal.returns-in_err-writes
returns-in_err-writes c =
    let e = c.in_err-writes.field-0.0 in
    let rest = c.in_ok-name.rest.now in
    handed_on _ c.args.bytes.now _ e c.from_residual-in_err-writes.ensures.1
    (later_fails _ _ _ _ literal_sequel text_determined c.args.bytes.now c.in_ok-name.name rest e c.in_ok-name.ensures.reads
    (later_fails _ _ _ _ counted_writes_sequel item_count_determined rest c.in_ok-count.count c.in_ok-count.rest.now e c.in_ok-count.ensures.reads c.in_err-writes.ensures))
