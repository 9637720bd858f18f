-- The snapshots of callers.
use Rattle.std.specs.Prelude.{ℕ, Bool, not, List, [], ◌∷◌, ◌++◌, Option, filter}
use Rattle.std.specs.List.{find}
use Rattle.std.specs.Option.{option_map}
use Rattle.orc_datastore.specs.Snapshots.{Snapshot}
use Rattle.orc_decls.specs.Devices.{is_same_text}
use Rattle.orc_scene.specs.declared.snapshots.Taken.{Taken}

-- the snapshot is this caller's
abbrev pub is_taken_by : List ℕ → Taken → Bool
is_taken_by caller one = is_same_text caller one.caller

-- the snapshots of all other callers
abbrev pub taken_by_others : List ℕ → List Taken → List Taken
taken_by_others caller taken = filter (λ one. not (is_taken_by caller one)) taken

-- the snapshots with one of this caller, and no other one of it
abbrev pub taken_with : List ℕ → Snapshot → List Taken → List Taken
taken_with caller snapshot taken =
    taken_by_others caller taken ++ record { caller = caller; snapshot = snapshot } ∷ []

-- the front of each caller's snapshot, if it has one
abbrev pub fronts_of : List Taken → List ℕ → Option ℕ
fronts_of taken caller = option_map (λ one. one.snapshot.front) (find (is_taken_by caller) taken)
