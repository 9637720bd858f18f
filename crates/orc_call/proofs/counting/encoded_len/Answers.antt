use Rattle.std.specs.Prelude.{List, length}
use Rattle.std.specs.List.{flat_map}
use Rattle.std.proofs.Common.{ap, arith}
use Rattle.orc_call.specs.declared.call.Action.{Action}
use Rattle.orc_call.specs.Fields.{spelled}
use Rattle.orc_call.specs.Encoding.{action_fields}
use Rattle.orc_call.proofs.Counts.{length_call}
use Rattle.orc_call.proofs.counting.encoded_len.Goals as goal

pub returns : goal.returns
returns c =
    let actions = ap (λ (l : List Action). length (flat_map (λ action. spelled (action_fields action)) l)) c.as_slice.ensures in
    omega (arith, actions, length_call c.args.call.now)
