-- What is kept of a hub of a table, from line to line.
use Rattle.std.specs.Prelude.{◌≡◌, false, IfSome, Option}
use Rattle.orc_datastore.specs.Snapshots.{Snapshot}
use Rattle.orc_decls.specs.Declarations.{AreDecls}
use Rattle.orc_disk.specs.Memory.{MemoryDisk, memory_disk}
use Rattle.orc_hub.specs.Keeps.{IsSoundHub}
use Rattle.orc_hub.specs.declared.hub.Hub.{Hub}
use Rattle.orc_state.specs.States.{IsSnapshotAt}

-- What each call keeps is so; and a snapshot that was taken is one of the history as it was.
pub record IsKept (hub : Hub MemoryDisk) (begun : Option Snapshot) : Type 0 where
  pub decls : AreDecls hub.decls
  pub sound : IsSoundHub memory_disk hub
  pub begun_is : hub.down ≡ false → IfSome begun (IsSnapshotAt hub.decls hub.state.history)
