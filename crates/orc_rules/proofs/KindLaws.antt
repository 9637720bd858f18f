-- A device of the hub's is lawful: its test decides equality, and the way to what is due leads there.
use Rattle.std.proofs.Common.{◌≡◌, ℕ, Bool, true, false, cond, nat_lt, List, [], ◌∷◌, All, IsTrue, length, refl, sym, ap, ◌∙◌}
use Rattle.std.specs.FinMap.{empty}
use Rattle.std.specs.Prelude.{filter}
use Rattle.std.proofs.lemmas.List.Elements.{All-cons, All-nil}
use Rattle.orc_path.specs.Configurations.{Config, IsConfig}
use Rattle.orc_path.proofs.ConfigurationLaws.{IsConfig-empty}
use Rattle.orc_call.specs.declared.call.Call.{Call}
use Rattle.orc_change.specs.Differences.{DifferenceLeads}
use Rattle.orc_datastore.specs.Laws.{AreActions, TreeIsConfiguration}
use Rattle.orc_datastore.specs.States.{tree_due}
use Rattle.orc_decls.specs.Calls.{is_action, is_call}
use Rattle.orc_decls.specs.Declarations.{AreDecls}
use Rattle.orc_decls.specs.declared.declarations.Decls.{Decls}
use Rattle.orc_device.specs.Nodes.{DeviceKind}
use Rattle.orc_tree.specs.Changes.{applied}
use Rattle.orc_tree.specs.Sameness.{EqualConfigsAreOne}
use Rattle.orc_tree.specs.declared.change.ChangeSet.{ChangeSet}
use Rattle.orc_rules.specs.Invariant.{IsLawful}
use Rattle.orc_rules.specs.Kept.{lawful_state}
use Rattle.orc_rules.specs.UnderHub.{IsOfHub}
use Rattle.orc_rules.specs.Worlds.{over}
use Rattle.orc_rules.proofs.Standings.{actions_of}

module _ (configuration : TreeIsConfiguration) (decls : Decls) (are : AreDecls decls) where
  -- the calls that call blocks give are of actions that they give
  pub lawful_actions : (history : List Call) → AreActions decls (filter (is_call decls) history)
  lawful_actions [] = All-nil (λ call. All (λ action. IsTrue (is_action decls action)) call.actions)
  lawful_actions (call ∷ history) = on (is_call decls call) refl (lawful_actions history)
    where
      on : (b : Bool) → is_call decls call ≡ b → AreActions decls (filter (is_call decls) history)
          → AreActions decls (cond b (call ∷ filter (is_call decls) history) (filter (is_call decls) history))
      on true is rest = All-cons (λ call. All (λ action. IsTrue (is_action decls action)) call.actions) call (filter (is_call decls) history) (actions_of decls call is) rest
      on false is rest = rest

  -- what is due is a configuration
  pub over_is_config : (device : ℕ) (history : List Call) → IsConfig (over decls device history)
  over_is_config device history = on (nat_lt device (length decls.names))
    where
      on : (b : Bool) → IsConfig (cond b (tree_due (lawful_state decls history) device) empty)
      on true = configuration decls (filter (is_call decls) history) device are (lawful_actions history)
      on false = IsConfig-empty

module _ (equal : EqualConfigsAreOne) (leads : DifferenceLeads) (configuration : TreeIsConfiguration) (decls : Decls) (are : AreDecls decls) where
  pub kind_is_lawful : (kind : DeviceKind) → IsOfHub kind → (device : ℕ) → IsLawful kind (over decls device)
  kind_is_lawful kind of_hub device = record {
    same = λ a b h. (equal a b).0 (sym (ap (λ (f : Config → Config → Bool). f a b) of_hub.same) ∙ h);
    changed = λ a h.
        of_hub.changed (kind.between a (over decls device h)) a
        ∙ ap (λ (f : Config → Config → ChangeSet). applied (f a (over decls device h)).changes a) of_hub.between
        ∙ leads a (over decls device h) (over_is_config configuration decls are device h);
  }
