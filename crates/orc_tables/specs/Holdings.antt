-- What a service holds in a store.
use Rattle.std.specs.Prelude.{◌≡◌, ℕ, List}
use Rattle.orc_path.specs.Steps.{PathStep}
use Rattle.orc_call.specs.declared.call.Put.{Put}
use Rattle.orc_refs.specs.Moves.{put_at}
use Rattle.orc_refs.specs.Stores.{Store, written_by}

-- the service of this id writes exactly these items
abbrev pub Writes : Store → List ℕ → List Put → Type 0
Writes store id items = (path : List PathStep) → put_at items path ≡ written_by store id path
