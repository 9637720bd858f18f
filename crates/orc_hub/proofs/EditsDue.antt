-- The operation due on a device is an edit, where a copy of it takes memory.
use Rattle.std.proofs.Common.{◌≡◌, ℕ, ◌<◌, Bool, true, false, cond, List, Option, None, Some, Ok, Err, refl, sym, ap, subst, ◌∙◌}
use Rattle.std.specs.Prelude.{OnErr, Result, slice_get}
use Rattle.std.specs.Option.{option_map_or}
use Rattle.std.proofs.lemmas.Bool.{false≢true}
use Rattle.std.proofs.lemmas.Option.{slice_get_read}
use Rattle.orc_device.specs.declared.op.Op.{Op}
use Rattle.orc_device.specs.declared.op.Op.TheVariants as op
use Rattle.orc_recover.specs.Menders.{MenderState, differences, is_editing, mend_order}
use Rattle.orc_recover.specs.declared.stage.MendStage.{MendStage}
use Rattle.orc_recover.specs.declared.stage.MendStage.TheVariants as stage
use Rattle.orc_path.specs.Configurations.{Config}
use Rattle.orc_rules.specs.Duties.{duty_order}
use Rattle.orc_rules.specs.Hubs.{Hub, due_on, has_come_to, has_met_failure, order_on}
use Rattle.orc_rules.specs.declared.duty.Duty.{Duty}
use Rattle.orc_rules.specs.declared.duty.Duty.TheVariants.{Free, Works, Mends}
use Rattle.orc_tree.specs.declared.change.ChangeSet.{ChangeSet}
use Rattle.orc_worker.specs.Workers.{order_at}
use Rattle.orc_hub_parts.specs.Due.{WantsEdit}
use Rattle.orc_hub.specs.Orders.{IsEditDue}
use Rattle.orc_rules.proofs.Reaching.{due_so}

mends_edit : (left : List (ℕ × Bool)) (due : Config) (at : MendStage) → is_editing at ≡ true
    → (changes : ChangeSet) × (mend_order differences left due at ≡ Some (op.Edit changes))
mends_edit left due (stage.Editing read) is = (differences read due, refl)
mends_edit left due stage.Opening is = absurd (false≢true is)
mends_edit left due stage.Resolving is = absurd (false≢true is)
mends_edit left due (stage.LockingRunning read) is = absurd (false≢true is)
mends_edit left due (stage.LockingCandidate read) is = absurd (false≢true is)
mends_edit left due stage.Validating is = absurd (false≢true is)
mends_edit left due stage.Committing is = absurd (false≢true is)
mends_edit left due stage.UnlockingCandidate is = absurd (false≢true is)
mends_edit left due stage.UnlockingRunning is = absurd (false≢true is)
mends_edit left due stage.Closing is = absurd (false≢true is)
mends_edit left due stage.Over is = absurd (false≢true is)

edit_of : (on : Duty) → WantsEdit on → (changes : ChangeSet) × (duty_order on ≡ Some (op.Edit changes))
edit_of Free wants = absurd wants
edit_of (Works worker) wants = (worker.set, ap (order_at worker.t worker.set) wants)
edit_of (Mends mender) wants = mends_edit mender.left mender.due mender.stage wants

-- what is due where a reconciliation, if one is begun, has met no failure and has come to the device
pub due_there : (hub : Hub) (device : ℕ) (on : Duty) → slice_get hub.duties device ≡ Some on → has_met_failure hub.mends ≡ false → has_come_to hub device ≡ true
    → due_on hub device ≡ duty_order on
due_there hub device on there well come = due_so hub device well come ∙ ap (λ (o : Option Duty). option_map_or duty_order o None) there

pub edit_due : (hub : Hub) (device : ℕ) (on : Duty) → slice_get hub.duties device ≡ Some on → has_met_failure hub.mends ≡ false → has_come_to hub device ≡ true
    → WantsEdit on → IsEditDue hub device
edit_due hub device on there well come wants = let edit = edit_of on wants in (edit.0, due_there hub device on there well come ∙ edit.1)

-- nothing is where it hasn't come to the device
pub none_yet : (hub : Hub) (device : ℕ) (down : Bool) → has_come_to hub device ≡ false → ◌≡◌ {A = Option Op} None (cond down None (due_on hub device))
none_yet hub device true is = refl
none_yet hub device false is = on (has_met_failure hub.mends)
  where
    on : (met : Bool) → ◌≡◌ {A = Option Op} None (cond met None (cond (has_come_to hub device) (order_on hub device) None))
    on true = refl
    on false = sym (ap (λ (b : Bool). cond b (order_on hub device) None) is)

pub on_err : {X Y : Type 0} {P Q : Type 0} (result : Result X Y) → (P → Q) → OnErr result P → OnErr result Q
on_err (Ok x) f p = tt
on_err (Err e) f p = f p
