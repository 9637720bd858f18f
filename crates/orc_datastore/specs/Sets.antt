-- What expanded actions change on the devices that they touch.
use Rattle.std.specs.Prelude.{◌≡◌, ℕ, List, map, Result}
use Rattle.std.specs.declared.option.Option.TheVariants.{None, Some}
use Rattle.std.specs.declared.result.Result.TheVariants.{Ok, Err}
use Rattle.orc_call.specs.declared.answer.Answer.{Answer}
use Rattle.orc_call.specs.declared.call.Action.{Action}
use Rattle.orc_call.specs.declared.call.Call.{Call}
use Rattle.orc_tree.specs.declared.change.Change.{Change}
use Rattle.orc_tree.specs.declared.change.ChangeSet.{ChangeSet}
use Rattle.orc_change.specs.Differences.{difference}
use Rattle.orc_datastore.specs.Actions.{bases_after, live_after}
use Rattle.orc_datastore.specs.Next.{after, clash}
use Rattle.orc_datastore.specs.States.{Datastore, tree_due}
use Rattle.orc_datastore.specs.Touched.{touched_among, touched_devices}
use Rattle.orc_decls.specs.declared.declarations.Decls.{Decls}

-- the bases and the living services after expanded actions, over the data as they are
abbrev pub on_devices : List (List ℕ) → List Action → Datastore → Datastore
on_devices names actions state = record state {
  bases = bases_after names actions state.bases;
  live = live_after names actions state.live;
}

-- where the trees that are due on a device in two states differ
abbrev pub set_between : Datastore → Datastore → ℕ → List Change
set_between before behind device = difference (tree_due before device) (tree_due behind device)

-- these devices with the changes on each, and an empty set where nothing changes
abbrev pub sets_between : Datastore → Datastore → List ℕ → List (ℕ × ChangeSet)
sets_between before behind devices =
    map (λ device. (device, record { changes = set_between before behind device })) devices

-- what expanded actions change on the devices that they touch, in the order of the devices
abbrev pub sets_among : List (List ℕ) → List Action → Datastore → List (ℕ × ChangeSet)
sets_among names actions state = sets_between state (on_devices names actions state) (touched_among names state actions)

-- those, or the clash for which the actions aren't done
abbrev pub AreSets : List (List ℕ) → List Action → Datastore → Result (List (ℕ × ChangeSet)) Answer → Type 0
AreSets names actions state (Ok sets) =
    (clash names state.live actions ≡ None) × (sets ≡ sets_among names actions state)
AreSets names actions state (Err answer) = clash names state.live actions ≡ Some answer

-- what a call changes on the devices that it touches
abbrev pub sets_of : Decls → Datastore → Call → List (ℕ × ChangeSet)
sets_of decls state call = sets_between state (after decls state call) (touched_devices decls state call)
