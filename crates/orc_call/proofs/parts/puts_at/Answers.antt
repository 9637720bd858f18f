use Rattle.std.proofs.Common.{◌≡◌, ◌∙◌, ap}
use Rattle.std.specs.declared.option.Option.TheVariants.{None}
use Rattle.std.specs.Option.{option_copied}
use Rattle.orc_call.specs.inside.Reading.{last_path}
use Rattle.orc_call.proofs.Grammars.{handed_on}
use Rattle.orc_call.proofs.Determined.{puts_fail, puts_more}
use Rattle.orc_call.proofs.parts.puts_at.Goals as goal

pub returns-in_err-put : goal.returns-in_err-put
returns-in_err-put c =
    let e = c.in_err-put.field-0.0 in
    let before : option_copied c.last_path.result ≡ last_path None c.loop.puts = c.last_path.ensures ∙ ap (last_path None) c.as_slice.ensures in
    handed_on _ c.args.bytes.now _ e c.from_residual.ensures.1
    (puts_fail c.loop.counter c.args.count c.args.bytes.now c.loop.puts c.loop.rest.now e (option_copied c.last_path.result) before c.loop.invariant c.in_err-put.ensures c.loop-test.true)

pub loop-preserved : goal.loop-preserved
loop-preserved c =
    let before : option_copied c.last_path.result ≡ last_path None c.loop.puts = c.last_path.ensures ∙ ap (last_path None) c.as_slice.ensures in
    rw c.in_ok-push.ensures.ok
    (puts_more c.loop.counter c.args.bytes.now c.loop.puts c.in_ok-put.put c.loop.rest.now c.in_ok-put.after.now (option_copied c.last_path.result) before c.loop.invariant c.in_ok-put.ensures)
