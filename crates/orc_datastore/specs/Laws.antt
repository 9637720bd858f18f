-- What users and the crates above rely on, over whole histories.
use Rattle.std.specs.Prelude.{◌≡◌, ℕ, List, All, IsTrue}
use Rattle.std.specs.declared.option.Option.TheVariants.{Some}
use Rattle.std.specs.declared.result.Result.TheVariants.{Ok}
use Rattle.std.specs.FinMap.{get}
use Rattle.orc_path.specs.Steps.{PathStep}
use Rattle.orc_path.specs.Configurations.{Config, IsConfig}
use Rattle.orc_path.specs.declared.item.Item.{Item}
use Rattle.orc_datastore.specs.States.{expansion, tree_due}
use Rattle.orc_decls.specs.Devices.{name_of}
use Rattle.orc_template.specs.Expansions.{Expanding}
use Rattle.orc_services.specs.Expanded.{writes_of}
use Rattle.orc_services.specs.Services.{Instance, expansion_at}
use Rattle.orc_datastore.specs.Next.{serving_on}
use Rattle.orc_typed.specs.Typed.{is_typed}
use Rattle.orc_decls.specs.Declarations.{AreDecls}
use Rattle.orc_decls.specs.Calls.{is_action, schema_named}
use Rattle.orc_datastore.specs.Legal.{state_of}
use Rattle.orc_decls.specs.declared.declarations.Decls.{Decls}
use Rattle.orc_call.specs.declared.call.Call.{Call}

-- each action of the calls of a history is one that call blocks can give
abbrev pub AreActions : Decls → List Call → Type 0
AreActions decls history = All (λ call. All (λ action. IsTrue (is_action decls action)) call.actions) history

-- Where the actions of a history are ones that call blocks can give, the tree of each device is a configuration.
abbrev pub TreeIsConfiguration : Type 0
TreeIsConfiguration =
    (decls : Decls) (history : List Call) (device : ℕ)
    → AreDecls decls → AreActions decls history → IsConfig (tree_due (state_of decls history) device)

-- Each item of it may stand there under the device's schema.
abbrev pub TreeIsTyped : Type 0
TreeIsTyped =
    (decls : Decls) (history : List Call) (device : ℕ) → AreDecls decls → AreActions decls history
    → (path : List PathStep) (item : Item) → get (tree_due (state_of decls history) device) path ≡ Some item
    → IsTrue (is_typed (schema_named decls.schemas decls.devices (name_of decls.names device)) path item)

-- The literal service that an expanded action comes to holds on each device what the expansion wrote there.
abbrev pub LiteralIsExpansion : Type 0
LiteralIsExpansion =
    (decls : Decls) (config : Config) (it : Instance) (e : Expanding) → AreDecls decls
    → expansion_at (serving_on decls config) it ≡ Ok e
    → expansion decls.names (writes_of decls.names e.written) ≡ e.written
