use Rattle.std.proofs.Common.{◌∙◌, ◌++◌, length, ap, sym}
use Rattle.std.specs.Int.{w32, to_be_bytes}
use Rattle.std.specs.List.{flat_map}
use Rattle.std.proofs.lemmas.Result.{on_ok_weaker}
use Rattle.orc_call.specs.Fields.{text_bytes}
use Rattle.orc_call.specs.Puts.{device_put_bytes}
use Rattle.orc_call.proofs.Written.{device_puts_fit, spelled_device_puts, three_written}
use Rattle.orc_call.proofs.encoding.push_literal.Goals as goal

pub push_device_puts-requires : goal.push_device_puts-requires
push_device_puts-requires c = device_puts_fit c.args.writes.now c.requires.1.1

pub returns : goal.returns
returns c = on_ok_weaker c.push_device_puts.result (λ e.
    let count = to_be_bytes w32 (length c.args.writes.now) in
    three_written c.args.out.now.items (text_bytes c.args.name.now) count (flat_map device_put_bytes c.args.writes.now) _ _ _ c.in_ok-push_text.ensures
    (c.in_ok-extend_from_slice.ensures.items ∙ ap (λ t. c.push_text.new.out.items ++ t) c.to_be_bytes.ensures) e
    ∙ ap (λ t. c.args.out.now.items ++ (text_bytes c.args.name.now ++ (count ++ t))) (sym (spelled_device_puts c.args.writes.now))) c.push_device_puts.ensures
