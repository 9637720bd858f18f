-- What is known of the actions that a call comes to, with no service expanded again.
use Rattle.std.proofs.Common.{◌≡◌, ℕ, true, List, [], ◌∷◌, All, IsTrue, None, Some, refl, sym, ap, subst, ◌∙◌}
use Rattle.std.specs.Prelude.{Option, option_map}
use Rattle.std.specs.Option.{option_or}
use Rattle.std.specs.declared.result.Result.{Result}
use Rattle.std.specs.declared.result.Result.TheVariants.{Ok, Err}
use Rattle.std.proofs.lemmas.List.Elements.{All-nil, All-cons, All-head, All-tail}
use Rattle.orc_path.specs.Configurations.{Config}
use Rattle.orc_path.specs.Items.{fits}
use Rattle.orc_call.specs.declared.answer.Answer.{Answer}
use Rattle.orc_call.specs.declared.call.Action.{Action}
use Rattle.orc_call.specs.declared.call.Action.TheVariants.{Create, Modify, Redeploy, Literal}
use Rattle.orc_call.specs.declared.call.Call.{Call}
use Rattle.orc_call.specs.declared.call.DevicePut.{DevicePut}
use Rattle.orc_template.specs.Expansions.{Expanding, Failed}
use Rattle.orc_template.specs.Laws.{WrittenIsTyped}
use Rattle.orc_services.specs.Expanded.{as_literal, expanded_action, expanded_actions, writes_of}
use Rattle.orc_services.specs.Fitting.{FitActions, fits_action}
use Rattle.orc_services.specs.Services.{Instance, Serving, expansion_at, instance_of}
use Rattle.orc_datastore.specs.Actions.{data_after, name_each_once}
use Rattle.orc_decls.specs.Calls.{is_action, is_call, is_write, schema_named}
use Rattle.orc_decls.specs.Declarations.{AreDecls}
use Rattle.orc_datastore.specs.Next.{IsDataAfter, after, after_by, clash, expanded_call, expanded_to, invalid, refusal, refusal_by, serving_on, unexpanded}
use Rattle.orc_datastore.specs.States.{Datastore}
use Rattle.orc_decls.specs.declared.declarations.Decls.{Decls}
use Rattle.orc_datastore.specs.inside.Behind.{changed_by}
use Rattle.orc_datastore.specs.inside.Sights.{service_key}
use Rattle.orc_datastore.proofs.Expanded.{all_once, ok_same, parted}
use Rattle.orc_decls.proofs.Fits.{action-fits, call-once, item-fits, list_all_weaker, write-item}
use Rattle.orc_datastore.proofs.Sighting.{call_keys, lawful_actions, made_keys}
use Rattle.orc_datastore.proofs.Written.{is_expanded, literal_may}

-- they fit

module _ (decls : Decls) (are : AreDecls decls) (law : WrittenIsTyped) (config : Config) where
  abbrev s : Serving
  s = serving_on decls config

  fits_of : (id : List ℕ) (ws : List DevicePut) → is_expanded decls (Literal id ws) ≡ true → IsTrue (fits_action (Literal id ws))
  fits_of id ws h =
      list_all_weaker (is_write decls) (λ w. fits w.path w.item)
      (λ w q. item-fits (schema_named decls.schemas decls.devices w.device) w.path w.item (write-item decls w q)) ws h

  literal_fits : (id : List ℕ) (o : Option Instance) (a : Action) → (as_literal decls.table.names id (option_map (expansion_at s) o)).outcome ≡ Ok a → IsTrue (fits_action a)
  literal_fits id None a h = ap fits_action (sym (ok_same (Literal id []) a h))
  literal_fits id (Some it) a h = on (expansion_at s it) refl h
    where
      on : (due : Result Expanding Failed) → expansion_at s it ≡ due → (as_literal decls.table.names id (Some due)).outcome ≡ Ok a → IsTrue (fits_action a)
      on (Ok e) due k =
          let same : Literal id (writes_of decls.table.names e.written) ≡ a = ok_same _ a k in
          ap fits_action (sym same)
          ∙ fits_of id (writes_of decls.table.names e.written) (ap (is_expanded decls) same ∙ literal_may decls are law config id (Some it) a h)
      on (Err failed) due k = absurd cc

  one_fits : (action a : Action) → IsTrue (is_action decls action) → (expanded_action s action).outcome ≡ Ok a → IsTrue (fits_action a)
  one_fits (Create id body) a h k = literal_fits id (instance_of decls.services id) a k
  one_fits (Modify id body) a h k = literal_fits id (instance_of decls.services id) a k
  one_fits (Redeploy id) a h k = literal_fits id (instance_of decls.services id) a k
  one_fits other a h k = ap fits_action (sym (ok_same other a k)) ∙ action-fits decls other h

  all_fit : (actions acts : List Action) → All (λ a. IsTrue (is_action decls a)) actions → (expanded_actions s actions).outcome ≡ Ok acts → FitActions acts
  all_fit [] acts h k = subst FitActions (ok_same [] acts k) (All-nil (λ (a : Action). IsTrue (fits_action a)))
  all_fit (action ∷ actions) acts h k =
      let p = parted (expanded_action s action).outcome (expanded_action s action).reads (expanded_actions s actions) acts k in
      subst FitActions (sym p.whole)
      (All-cons (λ (a : Action). IsTrue (fits_action a)) p.one p.rest
      (one_fits action p.one (All-head (λ (a : Action). IsTrue (is_action decls a)) action actions h) p.first_is)
      (all_fit actions p.rest (All-tail (λ (a : Action). IsTrue (is_action decls a)) action actions h) p.later_is))

module _ (decls : Decls) (call : Call) (lawful : IsTrue (is_call decls call)) (state : Datastore) (acts : List Action) (comes : expanded_call decls state call ≡ Ok acts) where
  pub come_fit : AreDecls decls → WrittenIsTyped → FitActions acts
  come_fit are law = all_fit decls are law (data_after call.actions state.data) call.actions acts (lawful_actions decls call lawful) comes

  pub come_once : IsTrue (name_each_once acts)
  come_once = all_once (serving_on decls (data_after call.actions state.data)) call.actions acts comes ∙ call-once decls call lawful

  pub come_keys : All (λ action. IsTrue (service_key action)) acts
  come_keys = made_keys (serving_on decls (data_after call.actions state.data)) call.actions acts comes (call_keys decls call lawful)

  -- the state after them
  pub come_after : (next : Config) → IsDataAfter decls state call (Ok next) → changed_by decls.names acts next state ≡ after decls state call
  come_after next behind =
      ap (λ (c : Config). changed_by decls.names acts c state) behind.0
      ∙ sym (ap (λ r. after_by decls state call (expanded_to r)) comes)

  -- nothing refuses the call
  pub come_unrefused : (next : Config) → IsDataAfter decls state call (Ok next) → clash decls.names state.live acts ≡ None → refusal decls state call ≡ None
  come_unrefused next behind clear =
      let last = option_or (unexpanded (Ok acts)) (clash decls.names state.live acts) in
      ap (refusal_by decls state call) comes
      ∙ ap (λ (o : Option Answer). option_or o (option_or (invalid decls.data_schema (data_after call.actions state.data)) last)) behind.1
      ∙ ap (λ (o : Option Answer). option_or o last) behind.2
      ∙ clear

  pub went_after : (next : Config) (names : List (List ℕ)) (new : Datastore) → IsDataAfter decls state call (Ok next) → names ≡ decls.names
      → new ≡ changed_by names acts next state → new ≡ after decls state call
  went_after next names new behind ns is = is ∙ ap (λ (l : List (List ℕ)). changed_by l acts next state) ns ∙ come_after next behind
