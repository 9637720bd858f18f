-- What the entries of a history write.
use Rattle.std.specs.Prelude.{List, [], ◌∷◌, Contains}
use Rattle.orc_path.specs.declared.item.Write.{Write}
use Rattle.orc_call.specs.declared.call.Call.{Call}
use Rattle.orc_datastore.specs.Next.{after}
use Rattle.orc_datastore.specs.States.{Datastore}
use Rattle.orc_decls.specs.declared.declarations.Decls.{Decls}
use Rattle.orc_plans.specs.Plans.{IsWriteOf}

-- these are what a call writes on a state, in any order
pub record AreWritesOf (state : Datastore) (call : Call) (writes : List Write) : Type 0 where
  pub sound : (write : Write) → Contains writes write → IsWriteOf state call write
  pub whole : (write : Write) → IsWriteOf state call write → Contains writes write

-- a row of writes for each call of a history, each on the state on which the call is done
abbrev pub AreWritesAlong : Decls → Datastore → List Call → List (List Write) → Type 0
AreWritesAlong decls state [] [] = Unit {0}
AreWritesAlong decls state [] (row ∷ rows) = ⊥
AreWritesAlong decls state (call ∷ calls) [] = ⊥
AreWritesAlong decls state (call ∷ calls) (row ∷ rows) =
    AreWritesOf state call row × AreWritesAlong decls (after decls state call) calls rows
