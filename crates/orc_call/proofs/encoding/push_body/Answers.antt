use Rattle.std.proofs.Common.{◌∙◌, ◌++◌, length, ap, sym}
use Rattle.std.specs.declared.option.Option.TheVariants.{None}
use Rattle.std.specs.Int.{w32, to_be_bytes}
use Rattle.std.specs.List.{flat_map}
use Rattle.std.proofs.lemmas.Result.{on_ok_weaker}
use Rattle.orc_call.specs.Fields.{text_bytes}
use Rattle.orc_call.specs.Puts.{put_bytes}
use Rattle.orc_call.proofs.Written.{puts_fit, spelled_puts, three_written}
use Rattle.orc_call.proofs.encoding.push_body.Goals as goal

pub push_puts-requires : goal.push_puts-requires
push_puts-requires c = puts_fit None c.args.puts.now c.requires.1.1

pub returns : goal.returns
returns c = on_ok_weaker c.push_puts.result (λ e.
    let count = to_be_bytes w32 (length c.args.puts.now) in
    three_written c.args.out.now.items (text_bytes c.args.service.now) count (flat_map put_bytes c.args.puts.now) _ _ _ c.in_ok-push_text.ensures
    (c.in_ok-extend_from_slice.ensures.items ∙ ap (λ t. c.push_text.new.out.items ++ t) c.to_be_bytes.ensures) e
    ∙ ap (λ t. c.args.out.now.items ++ (text_bytes c.args.service.now ++ (count ++ t))) (sym (spelled_puts None c.args.puts.now))) c.push_puts.ensures
