-- What a living service holds, where it lives, and which clash refuses a call.
use Rattle.std.specs.Prelude.{◌≡◌, ℕ, List, ◌∷◌, ◌++◌, All, Contains, IsTrue}
use Rattle.std.specs.declared.option.Option.TheVariants.{None, Some}
use Rattle.orc_path.specs.Steps.{PathStep}
use Rattle.orc_datastore.specs.States.{lives, Datastore}
use Rattle.orc_path.specs.Reading.{path_of}
use Rattle.orc_datastore.specs.Next.{after, clash, refusal}
use Rattle.orc_datastore.specs.Histories.{fold_from}
use Rattle.orc_decls.specs.Declarations.{AreDecls}
use Rattle.orc_decls.specs.Calls.{is_call}
use Rattle.orc_datastore.specs.Legal.{IsLegal, state_of}
use Rattle.orc_laws.specs.Making.{IsLeftBy, NamesService, is_instance_path, is_present_at, service_named}
use Rattle.orc_decls.specs.declared.declarations.Decls.{Decls}
use Rattle.orc_call.specs.declared.call.Action.{Action}
use Rattle.orc_call.specs.declared.call.Call.{Call}
use Rattle.orc_datastore.specs.declared.service.Service.{Service}
use Rattle.orc_laws.specs.Histories.{NamesOther}

-- The entries of a list with a template are the living services: after a legal history, of such a list, a service
-- lives exactly where its entry stands in the data, at the path whose text is its name.
abbrev pub ServiceLivesWhereItStands : Type 0
ServiceLivesWhereItStands =
    (decls : Decls) (history : List Call) (id : List ℕ) (path : List PathStep)
    → AreDecls decls → IsLegal decls history → path_of id ≡ Some path → IsTrue (is_instance_path decls path)
    → lives (state_of decls history).live id ≡ is_present_at (state_of decls history).data path

-- Calls that don't name a service leave it as it is: where it lives it holds the same, and where it doesn't they don't
-- make it.
abbrev pub UnnamedServiceStays : Type 0
UnnamedServiceStays =
    (decls : Decls) (state : Datastore) (calls : List Call) (id : List ℕ) → All (NamesOther id) calls
    → service_named (fold_from decls state calls) id ≡ service_named state id

-- A service that a call names is what its action leaves, where the call isn't refused: it holds its expansion on the
-- data after the call, or what its writes say, or is gone. So it stays, whatever calls come later that don't name it,
-- also where they change the data.
abbrev pub ServiceHoldsItsExpansion : Type 0
ServiceHoldsItsExpansion =
    (decls : Decls) (state : Datastore) (call : Call) (later : List Call) (action : Action) (id : List ℕ)
    → AreDecls decls → IsTrue (is_call decls call) → refusal decls state call ≡ None
    → Contains call.actions action → NamesService action id → All (NamesOther id) later
    → IsLeftBy decls (after decls state call).data action (service_named (fold_from decls state (call ∷ later)) id)

-- the service is what the last call of a history that names it left
pub record IsLastMade (decls : Decls) (history : List Call) (id : List ℕ) (service : Service) : Type 0 where
  pub before : List Call
  pub call : Call
  pub later : List Call
  pub whole : history ≡ before ++ call ∷ later
  pub action : Action
  pub among : Contains call.actions action
  pub names : NamesService action id
  pub other : All (NamesOther id) later
  pub left : IsLeftBy decls (after decls (state_of decls before) call).data action (Some service)

-- What a service holds that lives after a legal history is what the last call that named it made.
abbrev pub LivingIsLastMade : Type 0
LivingIsLastMade =
    (decls : Decls) (history : List Call) (id : List ℕ) (service : Service)
    → AreDecls decls → IsLegal decls history → service_named (state_of decls history) id ≡ Some service
    → IsLastMade decls history id service
