use Rattle.std.proofs.Common.{List, [], ◌∷◌, ◌++◌, map, sym, ap, ◌∙◌, arith}
use Rattle.std.specs.List.{range_with_len}
use Rattle.std.proofs.lemmas.List.FromFn.{map-range_with_len_more}
use Rattle.orc_rules.specs.declared.duty.Duty.{Duty}
use Rattle.orc_hub.specs.Mends.{begun_on}
use Rattle.orc_hub.proofs.hub.Hub.menders.Goals as goal

pub loop-device-preserved : goal.loop-device-preserved
loop-device-preserved g c =
    let hub = c.args.self.now in
    let n = c.loop-device.device in
    c.in_ok-push.ensures.ok
    ∙ ap (λ (l : List Duty). l ++ c.in_ok-mender_on.field-0 ∷ []) c.loop-device.invariant
    ∙ ap (λ (d : Duty). map (begun_on hub) (range_with_len 0 n) ++ d ∷ []) c.in_ok-mender_on.ensures
    ∙ sym (map-range_with_len_more (begun_on hub) 0 n n (omega arith))
