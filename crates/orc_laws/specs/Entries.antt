-- What the entries of a history write.
use Rattle.std.specs.Prelude.{List, [], ◌∷◌, ◌++◌, Contains}
use Rattle.orc_path.specs.declared.item.Write.{Write}
use Rattle.orc_path.specs.declared.item.Write.TheVariants as write
use Rattle.orc_call.specs.declared.call.Call.{Call}
use Rattle.orc_decls.specs.declared.declarations.Decls.{Decls}
use Rattle.orc_datastore.specs.Legal.{IsLegal, state_of}
use Rattle.orc_datastore.specs.Plans.{IsInsideOne}
use Rattle.orc_datastore.specs.declared.plan.Plan.{Plan}
use Rattle.orc_plans.specs.Plans.{IsWriteOf, StandsOn}

-- a plan holds the write: it is of a path inside one of the plan's targets, or of one of the services that it holds
abbrev pub IsHeldWrite : Plan → Write → Type 0
IsHeldWrite plan (write.At path) = IsInsideOne plan.held.targets path
IsHeldWrite plan (write.Service id) = Contains plan.held.services id

-- What an entry of a legal history writes is held by the plan by which it was committed, also by one that was made
-- before other entries and still stands: each path that it writes lies inside a target of the plan, and each service is
-- one of those that the plan holds.
abbrev pub EntryWritesAreHeld : Type 0
EntryWritesAreHeld =
    (decls : Decls) (history : List Call) (call : Call) (plan : Plan) (written : Write)
    → IsLegal decls (history ++ call ∷ []) → StandsOn decls (state_of decls history) call plan
    → IsWriteOf (state_of decls history) call written → IsHeldWrite plan written
