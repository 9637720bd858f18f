-- What a device shows of expanded actions that aren't done.
use Rattle.std.specs.Prelude.{◌≡◌, ℕ, List, Result}
use Rattle.std.specs.declared.option.Option.TheVariants.{None, Some}
use Rattle.std.specs.declared.result.Result.TheVariants.{Ok, Err}
use Rattle.orc_path.specs.Steps.{PathStep}
use Rattle.orc_call.specs.declared.answer.Answer.{Answer}
use Rattle.orc_call.specs.declared.answer.Answer.TheVariants.{Clash}
use Rattle.orc_call.specs.declared.call.Action.{Action}
use Rattle.orc_refs.specs.Clashes.{ClashesAt}
use Rattle.orc_refs.specs.Moves.{LeadsTo, writes_after}
use Rattle.orc_refs.specs.Stores.{Store, written_by}
use Rattle.orc_refs.specs.declared.moves.BaseEdit.{BaseEdit}
use Rattle.orc_refs.specs.declared.moves.Move.{Move}
use Rattle.orc_tree.specs.declared.change.ChangeSet.{ChangeSet}
use Rattle.orc_datastore.specs.Sets.{on_devices, set_between}
use Rattle.orc_datastore.specs.States.{Datastore}
use Rattle.orc_datastore.specs.inside.Keeping.{clash_on}

-- what moves and edits would change in a store's tree, or the clash for which they make nothing of it
abbrev pub Shows : Store → List Move → List BaseEdit → ℕ → Result ChangeSet Answer → Type 0
Shows store moves edits device (Ok set) = LeadsTo store moves edits set.changes
Shows store moves edits device (Err answer) =
    (path : List PathStep) × (other : List ℕ) × (answer ≡ Clash device path other)
    × ClashesAt (writes_after moves (written_by store)) moves path other

-- the changes of a device's tree, and no clash there; or the clash
abbrev pub IsSetAt : List (List ℕ) → List Action → Datastore → ℕ → Result ChangeSet Answer → Type 0
IsSetAt names actions state device (Ok set) =
    (clash_on names state.live actions device ≡ None)
    × (set ≡ record { changes = set_between state (on_devices names actions state) device })
IsSetAt names actions state device (Err answer) = clash_on names state.live actions device ≡ Some answer
