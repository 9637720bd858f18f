-- A device of its declared schema takes each change from one tree that is due to another.
use Rattle.std.proofs.Common.{◌≡◌, ℕ, Bool, true, false, cond, nat_lt, List, [], Option, Some, None, filter, length, refl, sym, ap, ◌∙◌}
use Rattle.std.specs.FinMap.{empty, get, get-empty}
use Rattle.orc_path.specs.Order.{path_cmp}
use Rattle.orc_path.specs.Configurations.{Config}
use Rattle.orc_path.specs.Steps.{PathStep}
use Rattle.orc_path.specs.declared.item.Item.{Item}
use Rattle.orc_call.specs.declared.call.Call.{Call}
use Rattle.orc_datastore.specs.Laws.{TreeIsConfiguration, TreeIsTyped}
use Rattle.orc_datastore.specs.States.{tree_due}
use Rattle.orc_decls.specs.Calls.{is_call, schema_named}
use Rattle.orc_decls.specs.Declarations.{AreDecls}
use Rattle.orc_decls.specs.Devices.{name_of}
use Rattle.orc_decls.specs.declared.declarations.Decls.{Decls}
use Rattle.orc_device.specs.Nodes.{DeviceKind}
use Rattle.orc_node.specs.Kinds.{set_stands}
use Rattle.orc_node.specs.Laws.{ChangesAreTaken, IsTypedTree}
use Rattle.orc_schema_nodes.specs.Schemas.{SchemaTable}
use Rattle.orc_tree.specs.Sameness.{EqualConfigsAreOne}
use Rattle.orc_tree.specs.declared.change.ChangeSet.{ChangeSet}
use Rattle.orc_rules.specs.Acceptance.{IsOfSchema}
use Rattle.orc_rules.specs.Invariant.{IsFitting}
use Rattle.orc_rules.specs.Kept.{lawful_state}
use Rattle.orc_rules.specs.UnderHub.{IsOfHub}
use Rattle.orc_rules.specs.Worlds.{over}
use Rattle.orc_rules.proofs.KindLaws.{lawful_actions, over_is_config}

-- an empty tree has no item
nothing_in : (path : List PathStep) (item : Item) (o : Option Item) → o ≡ None → o ≡ Some item → ⊥
nothing_in path item o none is = let no : ◌≡◌ {A = Option Item} None (Some item) = sym none ∙ is in cc

module _ (equal : EqualConfigsAreOne) (configuration : TreeIsConfiguration) (typed : TreeIsTyped) (taken : ChangesAreTaken) (decls : Decls) (are : AreDecls decls) where
  abbrev schema_on : ℕ → SchemaTable
  schema_on device = schema_named decls.schemas decls.devices (name_of decls.names device)

  -- what is due is typed
  over_is_typed : (device : ℕ) (history : List Call) → IsTypedTree (schema_on device) (over decls device history)
  over_is_typed device history = on (nat_lt device (length decls.names))
    where
      on : (b : Bool) → IsTypedTree (schema_on device) (cond b (tree_due (lawful_state decls history) device) empty)
      on true path item is = typed decls (filter (is_call decls) history) device are (lawful_actions configuration decls are history) path item is
      on false path item is = absurd (nothing_in path item (get {R = path_cmp} empty path) (get-empty path_cmp path) is)

  pub kind_fits : (kind : DeviceKind) → IsOfHub kind → (device : ℕ) → IsOfSchema decls device kind → IsFitting kind (over decls device)
  kind_fits kind of_hub device of_schema = record {
    equal = λ a. ap (λ (f : Config → Config → Bool). f a a) of_hub.same ∙ (equal a a).1 refl;
    fits = λ g h.
        ap (λ (f : ChangeSet → Bool). f (kind.between (over decls device g) (over decls device h))) of_schema
        ∙ ap (λ (f : Config → Config → ChangeSet). set_stands (schema_on device) (f (over decls device g) (over decls device h))) of_hub.between
        ∙ taken (record { schema = schema_on device; max = []; forbid = [] }) (over decls device g) (over decls device h) (over_is_typed device g) (over_is_typed device h)
        (over_is_config configuration decls are device h);
  }
