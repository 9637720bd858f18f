use Rattle.std.proofs.Common.{◌<◌, List, ℕ, ap, length, ◌∙◌, rules}
use Rattle.orc_path.specs.Configurations.{put_item}
use Rattle.orc_path.specs.Steps.{PathStep}
use Rattle.orc_path.specs.declared.item.Item.TheVariants.{Entry}
use Rattle.orc_datastore.specs.Snapshots.{device_row}
use Rattle.orc_datastore.proofs.Spreading.{entered_off, entered_on}
use Rattle.orc_datastore.proofs.known.enter_parts.Goals as goal
use Rattle.orc_datastore.proofs.known.enter_parts.Goals.{then-is_on+in_ok-device_row+in_ok-set, else-is_on}

pub loop-device-preserved : goal.loop-device-preserved
loop-device-preserved c =
    let service = c.args.service.now in
    let lt : c.loop-device.device < length service.parts = search rules in
    elim c.if-is_on.branch [
      | then-is_on+in_ok-device_row+in_ok-set w ↦
          entered_on service.id service.parts c.loop-device.device c.loop-device.known c.if-is_on.known _ c.is_on.result lt c.is_on.ensures c.loop-device.invariant
          w.if-is_on.true
          (w.known-is ∙ w.in_ok-set.ensures.ok
          ∙ ap (λ (path : List PathStep). put_item c.loop-device.known path Entry)
          (w.in_ok-device_row.ensures ∙ ap (λ (id : List ℕ). device_row id c.loop-device.device) w.id.ensures))
      | else-is_on w ↦
          entered_off service.id service.parts c.loop-device.device c.loop-device.known c.if-is_on.known _ c.is_on.result lt c.is_on.ensures c.loop-device.invariant
          w.if-is_on.false w.known-is
    ]
