-- What the actions of a call come to.
use Rattle.std.proofs.Common.{◌≡◌, ℕ, Bool, true, false, not, ◌&&◌, ◌||◌, List, [], ◌∷◌, Some, None, refl, sym, ap, ◌∙◌}
use Rattle.std.specs.declared.option.Option.{Option}
use Rattle.std.specs.declared.result.Result.{Result}
use Rattle.std.specs.declared.result.Result.TheVariants.{Ok, Err}
use Rattle.std.specs.Option.{option_map_or}
use Rattle.orc_call.specs.declared.answer.Answer.{Answer}
use Rattle.orc_call.specs.declared.call.Action.{Action}
use Rattle.orc_call.specs.declared.call.Action.TheVariants.{Create, Modify, Redeploy, Literal, Delete, Set, Unset, BasePut, BaseRemove}
use Rattle.orc_expr.specs.declared.read.Read.{Read}
use Rattle.orc_template.specs.Expansions.{Expanding, Failed}
use Rattle.orc_services.specs.Services.{Serving, expansion_of}
use Rattle.orc_services.specs.Expanded.{ExpandedTo, as_literal, expanded_actions, expanded_by, expanded_action, with_expanded}
use Rattle.orc_decls.specs.Devices.{is_same_text}
use Rattle.orc_datastore.specs.Actions.{is_named_by, name_each_once, named}
use Rattle.orc_decls.specs.Calls.{is_service_among, service_of, services_once}
use Rattle.orc_datastore.specs.Next.{expanded_to}

pub ok_same : {X E : Type 0} (x y : X) → ◌≡◌ {A = Result X E} (Ok x) (Ok y) → x ≡ y
ok_same x y h = cc

pub err_no_ok : {X E : Type 0} (e : E) (y : X) → ◌≡◌ {A = Result X E} (Err e) (Ok y) → ⊥
err_no_ok e y h = cc

literal_named : (names : List (List ℕ)) (id : List ℕ) (o : Option (Result Expanding Failed)) (a : Action)
    → (as_literal names id o).outcome ≡ Ok a → named a ≡ Some id
literal_named names id None a h = ap named (sym (ok_same (Literal id []) a h))
literal_named names id (Some (Ok e)) a h = ap named (sym (ok_same _ a h))
literal_named names id (Some (Err failed)) a h = absurd (err_no_ok _ a h)

-- an expanded action names what the action named
pub one_named : (s : Serving) (action a : Action) → (expanded_action s action).outcome ≡ Ok a → named a ≡ service_of action
one_named s (Create id body) a h = literal_named s.devices.names id (expansion_of s id) a h
one_named s (Modify id body) a h = literal_named s.devices.names id (expansion_of s id) a h
one_named s (Redeploy id) a h = literal_named s.devices.names id (expansion_of s id) a h
one_named s (Literal id writes) a h = ap named (sym (ok_same (Literal id writes) a h))
one_named s (Delete id) a h = ap named (sym (ok_same (Delete id) a h))
one_named s (Set put) a h = ap named (sym (ok_same (Set put) a h))
one_named s (Unset path) a h = ap named (sym (ok_same (Unset path) a h))
one_named s (BasePut put) a h = ap named (sym (ok_same (BasePut put) a h))
one_named s (BaseRemove device path) a h = ap named (sym (ok_same (BaseRemove device path) a h))

-- the first action and the later ones, where all are expanded
pub record Parts (first : Result Action Answer) (later : Result (List Action) Answer) (acts : List Action) : Type 0 where
  pub one : Action
  pub rest : List Action
  pub first_is : first ≡ Ok one
  pub later_is : later ≡ Ok rest
  pub whole : acts ≡ one ∷ rest

pub parted : (first : Result Action Answer) (reads : List Read) (later : ExpandedTo (List Action)) (acts : List Action)
    → (expanded_by first reads later).outcome ≡ Ok acts → Parts first later.outcome acts
parted (Err answer) reads later acts h = absurd (err_no_ok answer acts h)
parted (Ok one) reads later acts h = on later.outcome refl h
  where
    on : (o : Result (List Action) Answer) → later.outcome ≡ o → with_expanded one o ≡ Ok acts → Parts (Ok one) later.outcome acts
    on (Ok rest) is e = record { one = one; rest = rest; first_is = refl; later_is = is; whole = sym (ok_same (one ∷ rest) acts e) }
    on (Err answer) is e = absurd (err_no_ok answer acts e)

-- expanded actions name the services that the actions name
pub all_named : (s : Serving) (actions acts : List Action) → (expanded_actions s actions).outcome ≡ Ok acts → (id : List ℕ)
    → is_named_by acts id ≡ is_service_among actions id
all_named s [] acts h id = ap (λ l. is_named_by l id) (sym (ok_same [] acts h))
all_named s (action ∷ actions) acts h id =
    let p = parted (expanded_action s action).outcome (expanded_action s action).reads (expanded_actions s actions) acts h in
    ap (λ l. is_named_by l id) p.whole
    ∙ ap (λ o. option_map_or (λ own. is_same_text id own) o false || is_named_by p.rest id) (one_named s action p.one p.first_is)
    ∙ ap (λ t. option_map_or (λ own. is_same_text id own) (service_of action) false || t) (all_named s actions p.rest p.later_is id)

-- and each once where those do
pub all_once : (s : Serving) (actions acts : List Action) → (expanded_actions s actions).outcome ≡ Ok acts
    → name_each_once acts ≡ services_once actions
all_once s [] acts h = ap name_each_once (sym (ok_same [] acts h))
all_once s (action ∷ actions) acts h =
    let p = parted (expanded_action s action).outcome (expanded_action s action).reads (expanded_actions s actions) acts h in
    ap name_each_once p.whole
    ∙ ap (λ o. option_map_or (λ id. not (is_named_by p.rest id)) o true && name_each_once p.rest) (one_named s action p.one p.first_is)
    ∙ ap (λ t. option_map_or (λ id. not (is_named_by p.rest id)) (service_of action) true && t) (all_once s actions p.rest p.later_is)
    ∙ ap (λ t. t && services_once actions) (same (service_of action) (all_named s actions p.rest p.later_is))
  where
    same : {xs ys : List ℕ → Bool} (o : Option (List ℕ)) → ((id : List ℕ) → xs id ≡ ys id)
        → option_map_or (λ id. not (xs id)) o true ≡ option_map_or (λ id. not (ys id)) o true
    same None h = refl
    same (Some id) h = ap not (h id)

-- expanded to nothing where one can't be expanded
pub other_unnamed : (s : Serving) (actions : List Action) (id : List ℕ) → is_service_among actions id ≡ false
    → is_named_by (expanded_to (expanded_actions s actions).outcome) id ≡ false
other_unnamed s actions id h = on (expanded_actions s actions).outcome refl
  where
    on : (o : Result (List Action) Answer) → (expanded_actions s actions).outcome ≡ o → is_named_by (expanded_to o) id ≡ false
    on (Ok acts) is = all_named s actions acts is id ∙ h
    on (Err answer) is = refl

-- an expanded action names, as actions of a call do, what the action named
literal_serves : (names : List (List ℕ)) (id : List ℕ) (o : Option (Result Expanding Failed)) (a : Action)
    → (as_literal names id o).outcome ≡ Ok a → service_of a ≡ Some id
literal_serves names id None a h = ap service_of (sym (ok_same (Literal id []) a h))
literal_serves names id (Some (Ok e)) a h = ap service_of (sym (ok_same _ a h))
literal_serves names id (Some (Err failed)) a h = absurd (err_no_ok _ a h)

pub one_serves : (s : Serving) (action a : Action) → (expanded_action s action).outcome ≡ Ok a → service_of a ≡ service_of action
one_serves s (Create id body) a h = literal_serves s.devices.names id (expansion_of s id) a h
one_serves s (Modify id body) a h = literal_serves s.devices.names id (expansion_of s id) a h
one_serves s (Redeploy id) a h = literal_serves s.devices.names id (expansion_of s id) a h
one_serves s (Literal id writes) a h = ap service_of (sym (ok_same (Literal id writes) a h))
one_serves s (Delete id) a h = ap service_of (sym (ok_same (Delete id) a h))
one_serves s (Set put) a h = ap service_of (sym (ok_same (Set put) a h))
one_serves s (Unset path) a h = ap service_of (sym (ok_same (Unset path) a h))
one_serves s (BasePut put) a h = ap service_of (sym (ok_same (BasePut put) a h))
one_serves s (BaseRemove device path) a h = ap service_of (sym (ok_same (BaseRemove device path) a h))
