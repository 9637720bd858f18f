-- What the actions of a call make of the services that they name.
use Rattle.std.specs.Prelude.{◌≡◌, ℕ, Bool, List, Option, is_some}
use Rattle.std.specs.declared.option.Option.TheVariants.{None, Some}
use Rattle.std.specs.declared.result.Result.TheVariants.{Ok}
use Rattle.std.specs.List.{find}
use Rattle.std.specs.FinMap.{get}
use Rattle.orc_path.specs.Steps.{PathStep}
use Rattle.orc_path.specs.Configurations.{Config}
use Rattle.orc_call.specs.declared.call.Action.{Action}
use Rattle.orc_call.specs.declared.call.Action.TheVariants.{Create, Modify, Redeploy, Literal, Delete}
use Rattle.orc_template.specs.Expansions.{Expanding}
use Rattle.orc_services.specs.Services.{Instance, expansion_at, instance_of, list_with}
use Rattle.orc_datastore.specs.States.{Datastore, expansion, has_id}
use Rattle.orc_decls.specs.Calls.{service_of}
use Rattle.orc_datastore.specs.Next.{serving_on}
use Rattle.orc_decls.specs.declared.declarations.Decls.{Decls}
use Rattle.orc_datastore.specs.declared.service.Service.{Service}

-- the path is that of an entry of a list with a template, whatever its keys
abbrev pub is_instance_path : Decls → List PathStep → Bool
is_instance_path decls path = is_some (list_with decls.services path)

-- something stands there
abbrev pub is_present_at : Config → List PathStep → Bool
is_present_at config path = is_some (get config path)

-- the action of a call names this service
abbrev pub NamesService : Action → List ℕ → Type 0
NamesService action id = service_of action ≡ Some id

-- the living service of a name
abbrev pub service_named : Datastore → List ℕ → Option Service
service_named state id = find (has_id id) state.live

-- A service of a list with a template lives, and holds on each device what the expansion of the template on these data
-- wrote there.
pub record HoldsExpansion (decls : Decls) (config : Config) (id : List ℕ) (found : Option Service) : Type 0 where
  pub it : Instance
  pub template : instance_of decls.services id ≡ Some it
  pub e : Expanding
  pub expanded : expansion_at (serving_on decls config) it ≡ Ok e
  pub holds : found ≡ Some (record { id = id; parts = e.written })

-- What an action leaves of the service that it names, where these are the data after its call: one of a list that it
-- creates, modifies or redeploys holds its expansion on them, a literal one what its writes say, and a deleted one is
-- gone.
abbrev pub IsLeftBy : Decls → Config → Action → Option Service → Type 0
IsLeftBy decls config (Create id body) found = HoldsExpansion decls config id found
IsLeftBy decls config (Modify id body) found = HoldsExpansion decls config id found
IsLeftBy decls config (Redeploy id) found = HoldsExpansion decls config id found
IsLeftBy decls config (Literal id writes) found =
    found ≡ Some (record { id = id; parts = expansion decls.names writes })
IsLeftBy decls config (Delete id) found = found ≡ None
IsLeftBy decls config other found = Unit {0}
