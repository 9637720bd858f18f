-- The data after a call.
use Rattle.std.specs.Prelude.{◌==◌, ℕ, List, [], ◌∷◌, Bool, true, false}
use Rattle.orc_path.specs.Configurations.{Config}
use Rattle.orc_call.specs.declared.call.Action.{Action}
use Rattle.orc_call.specs.declared.call.Action.TheVariants.{Create, Modify, Delete, Set, Unset}
use Rattle.orc_datastore.specs.Actions.{bases_after, live_after}
use Rattle.orc_datastore.specs.States.{Datastore}

-- the text begins with a slash, as that of each path does
abbrev pub begins_as_path : List ℕ → Bool
begins_as_path [] = false
begins_as_path (first ∷ rest) = first == 47

-- an action may change the data: that of a service's entry, or of an item
abbrev pub is_on_data : Action → Bool
is_on_data (Create id body) = true
is_on_data (Modify id body) = true
is_on_data (Delete id) = begins_as_path id
is_on_data (Set put) = true
is_on_data (Unset path) = true
is_on_data other = false

-- the state with these data, after expanded actions
abbrev pub changed_by : List (List ℕ) → List Action → Config → Datastore → Datastore
changed_by names actions config state = record {
  «data» = config;
  bases = bases_after names actions state.bases;
  live = live_after names actions state.live;
}
