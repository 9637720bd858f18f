-- A refusal never says that a call is committed, and Conflict comes only by a conflict.
use Rattle.std.proofs.Common.{◌≡◌, inl, inr, ℕ, ◌+◌, Bool, true, false, cond, List, [], ◌∷◌, Option, Some, None, Ok, Err, Result, refl, sym, ap, ◌∙◌, suc}
use Rattle.std.specs.Prelude.{slice_get}
use Rattle.std.specs.List.{list_any}
use Rattle.std.specs.Option.{option_map, option_map_or, option_or}
use Rattle.std.proofs.lemmas.Bool.{false≢true}
use Rattle.std.proofs.lemmas.Option.{same_Some}
use Rattle.orc_path.specs.Configurations.{Config}
use Rattle.orc_path.specs.Steps.{PathStep}
use Rattle.orc_path.specs.declared.item.Write.{Write}
use Rattle.orc_call.specs.declared.answer.Answer.{Answer}
use Rattle.orc_call.specs.declared.answer.Answer.TheVariants as answer
use Rattle.orc_call.specs.declared.answer.Why.{Why}
use Rattle.orc_call.specs.declared.call.Action.{Action}
use Rattle.orc_call.specs.declared.call.Action.TheVariants as action
use Rattle.orc_call.specs.declared.call.Call.{Call}
use Rattle.orc_check.specs.Validity.{Breach, broken_of}
use Rattle.orc_datastore.specs.Actions.{data_after, live_after, touched}
use Rattle.orc_datastore.specs.Legal.{state_of}
use Rattle.orc_datastore.specs.Clashes.{clash_at, clash_from, unequal_on}
use Rattle.orc_datastore.specs.Next.{clash, existence, expanded_call, expanded_to, first_service_fault, invalid, service_fault, serving_on, unexpanded}
use Rattle.orc_datastore.specs.Plans.{call_expansions, call_held, plan_refusal, plan_unless, planned}
use Rattle.orc_datastore.specs.States.{Datastore, lives}
use Rattle.orc_datastore.specs.declared.service.Service.{Service}
use Rattle.orc_datastore.specs.declared.plan.Plan.{Plan}
use Rattle.orc_decls.specs.declared.declarations.Decls.{Decls}
use Rattle.orc_expr.specs.declared.read.Read.{Read}
use Rattle.orc_schema_nodes.specs.Schemas.{SchemaTable}
use Rattle.orc_services.specs.Expanded.{ExpandedTo, as_literal, expanded_action, expanded_actions, expanded_by, with_expanded}
use Rattle.orc_services.specs.Services.{Serving, expansion_of}
use Rattle.orc_template.specs.Expansions.{Expanding, Failed}
use Rattle.orc_worker.specs.declared.report.Outcome.{Outcome}
use Rattle.orc_worker.specs.declared.report.Outcome.TheVariants as outcome
use Rattle.orc_state.specs.Checks.{Checks, IsConflict, refused_early}
use Rattle.orc_tree.specs.declared.change.ChangeSet.{ChangeSet}
use Rattle.orc_rules.specs.Admissions.{IsTurnedAway}
use Rattle.orc_rules.specs.Duties.{outcome_on}
use Rattle.orc_rules.specs.Fits.{first_stale, stale_one}
use Rattle.orc_rules.specs.Hubs.{Hub}
use Rattle.orc_rules.specs.Verdicts.{first_answer, is_short, lost_answer, refused_by, verdict}
use Rattle.orc_rules.specs.declared.duty.Duty.{Duty}
use Rattle.orc_rules.specs.declared.transaction.Waiting.{Waiting}

-- one that is answered to a call by what is looked at of it alone, but for a conflict
abbrev pub is_plain : Answer → Bool
is_plain (answer.Exists id) = true
is_plain (answer.Missing id) = true
is_plain (answer.Invalid path rule) = true
is_plain (answer.Expand id block rule) = true
is_plain (answer.Clash device path id) = true
is_plain other = false

-- a call that isn't admitted, and is answered so, has a conflict
pub record HasConflict (decls : Decls) (history : List Call) (plan : Plan) (said : Answer) : Type 0 where
  pub n : ℕ
  pub written : Write
  pub is : said ≡ answer.Conflict (n + 1) written
  pub conflict : IsConflict decls history plan n written

-- An answer of another kind is never given there.
module _ (is_sought : Answer → Bool) (plain : (x : Answer) → is_plain x ≡ true → is_sought x ≡ false) where
  abbrev pub Unsought : Option Answer → Type 0
  Unsought said = (given : Answer) → said ≡ Some given → is_sought given ≡ true → ⊥

  none_unsought : Unsought None
  none_unsought given e h = cc

  other_unsought : (x : Answer) → is_sought x ≡ false → Unsought (Some x)
  other_unsought x other given e h = false≢true (sym other ∙ ap is_sought (same_Some x given e) ∙ h)

  or_unsought : (a b : Option Answer) → Unsought a → Unsought b → Unsought (option_or a b)
  or_unsought None b f g = g
  or_unsought (Some x) b f g = f

  cond_unsought : (c : Bool) (a b : Option Answer) → Unsought a → Unsought b → Unsought (cond c a b)
  cond_unsought true a b f g = f
  cond_unsought false a b f g = g

  mapped_unsought : {X : Type 0} (f : X → Answer) → ((x : X) → is_sought (f x) ≡ false) → (o : Option X) → Unsought (option_map f o)
  mapped_unsought f h None = none_unsought
  mapped_unsought f h (Some x) = other_unsought (f x) (h x)

  -- the first action at fault
  fault_unsought : (is_alive : List ℕ → Bool) (one : Action) → Unsought (service_fault is_alive one)
  fault_unsought is_alive (action.Create id body) = cond_unsought (is_alive id) (Some (answer.Exists id)) None (other_unsought (answer.Exists id) (plain (answer.Exists id) refl)) none_unsought
  fault_unsought is_alive (action.Modify id body) = cond_unsought (is_alive id) None (Some (answer.Missing id)) none_unsought (other_unsought (answer.Missing id) (plain (answer.Missing id) refl))
  fault_unsought is_alive (action.Redeploy id) = cond_unsought (is_alive id) None (Some (answer.Missing id)) none_unsought (other_unsought (answer.Missing id) (plain (answer.Missing id) refl))
  fault_unsought is_alive (action.Literal id writes) = cond_unsought (is_alive id) (Some (answer.Exists id)) None (other_unsought (answer.Exists id) (plain (answer.Exists id) refl)) none_unsought
  fault_unsought is_alive (action.Delete id) = cond_unsought (is_alive id) None (Some (answer.Missing id)) none_unsought (other_unsought (answer.Missing id) (plain (answer.Missing id) refl))
  fault_unsought is_alive other = none_unsought

  faults_unsought : (is_alive : List ℕ → Bool) (actions : List Action) → Unsought (first_service_fault is_alive actions)
  faults_unsought is_alive [] = none_unsought
  faults_unsought is_alive (one ∷ actions) =
      or_unsought (service_fault is_alive one) (first_service_fault is_alive actions) (fault_unsought is_alive one) (faults_unsought is_alive actions)

  pub existence_unsought : (live : List Service) (actions : List Action) → Unsought (existence live actions)
  existence_unsought live actions = faults_unsought (lives live) actions

  -- what is broken in the data
  pub invalid_unsought : (schema : SchemaTable) (config : Config) → Unsought (invalid schema config)
  invalid_unsought schema config = mapped_unsought (λ (breach : Breach). answer.Invalid breach.path breach.rule) (λ breach. plain (answer.Invalid breach.path breach.rule) refl) (broken_of schema config)

  -- a clash
  clash_unsought : (live services : List Service) (device : ℕ) (names : List (List ℕ)) → Unsought (clash_from live services device names)
  clash_unsought live services device [] = none_unsought
  clash_unsought live services device (name ∷ names) =
      or_unsought (clash_at live services device) (clash_from live services (suc device) names)
      (mapped_unsought (λ (at : List PathStep × List ℕ). answer.Clash device at.0 at.1) (λ at. plain (answer.Clash device at.0 at.1) refl) (unequal_on live services device))
      (clash_unsought live services (suc device) names)

  named_unsought : (names : List (List ℕ)) (live : List Service) (actions : List Action) → Unsought (clash names live actions)
  named_unsought names live actions = clash_unsought (live_after names actions live) (touched actions (live_after names actions live)) 0 names

  -- what can't be expanded

  abbrev refusal_in : Result Action Answer → Option Answer
  refusal_in (Ok one) = None
  refusal_in (Err said) = Some said

  literal_unsought : (names : List (List ℕ)) (id : List ℕ) (o : Option (Result Expanding Failed)) → Unsought (refusal_in (as_literal names id o).outcome)
  literal_unsought names id None = none_unsought
  literal_unsought names id (Some (Ok e)) = none_unsought
  literal_unsought names id (Some (Err failed)) = other_unsought (answer.Expand id failed.block failed.rule) (plain (answer.Expand id failed.block failed.rule) refl)

  expanded_unsought : (s : Serving) (one : Action) → Unsought (refusal_in (expanded_action s one).outcome)
  expanded_unsought s (action.Create id body) = literal_unsought s.devices.names id (expansion_of s id)
  expanded_unsought s (action.Modify id body) = literal_unsought s.devices.names id (expansion_of s id)
  expanded_unsought s (action.Redeploy id) = literal_unsought s.devices.names id (expansion_of s id)
  expanded_unsought s other = none_unsought

  with_unsought : (one : Action) (later : Result (List Action) Answer) → Unsought (unexpanded later) → Unsought (unexpanded (with_expanded one later))
  with_unsought one (Ok actions) h = none_unsought
  with_unsought one (Err said) h = h

  by_unsought : (r : Result Action Answer) (reads : List Read) (later : ExpandedTo (List Action)) → Unsought (refusal_in r) → Unsought (unexpanded later.outcome)
      → Unsought (unexpanded (expanded_by r reads later).outcome)
  by_unsought (Ok one) reads later f g = with_unsought one later.outcome g
  by_unsought (Err said) reads later f g = f

  actions_unsought : (s : Serving) (actions : List Action) → Unsought (unexpanded (expanded_actions s actions).outcome)
  actions_unsought s [] = none_unsought
  actions_unsought s (one ∷ actions) =
      by_unsought (expanded_action s one).outcome (expanded_action s one).reads (expanded_actions s actions) (expanded_unsought s one) (actions_unsought s actions)

  -- a call that can't be planned
  unless_unsought : (o : Option Answer) (plan : Plan) → Unsought o → (given : Answer) → plan_unless o plan ≡ Err given → is_sought given ≡ true → ⊥
  unless_unsought None plan h given e sought = cc
  unless_unsought (Some said) plan h given e sought = h given (let same : said ≡ given = cc in ap Some same) sought

  pub planned_unsought : (decls : Decls) (state : Datastore) (front : ℕ) (call : Call) (given : Answer) → planned decls state front call ≡ Err given → is_sought given ≡ true → ⊥
  planned_unsought decls state front call given e =
      unless_unsought (plan_refusal decls state call) (record { front = front; held = call_held decls state call; expansions = call_expansions decls state call; next = data_after call.actions state.data })
      (or_unsought (existence state.live call.actions)
      (option_or (invalid decls.data_schema (data_after call.actions state.data)) (unexpanded (expanded_call decls state call))) (existence_unsought state.live call.actions)
      (or_unsought (invalid decls.data_schema (data_after call.actions state.data)) (unexpanded (expanded_call decls state call))
      (invalid_unsought decls.data_schema (data_after call.actions state.data))
      (actions_unsought (serving_on decls (data_after call.actions state.data)) call.actions)))
      given e

  early_unsought : (decls : Decls) (state : Datastore) (call : Call) → Unsought (refused_early decls state call)
  early_unsought decls state call =
      or_unsought (existence state.live call.actions) (invalid decls.data_schema (data_after call.actions state.data)) (existence_unsought state.live call.actions)
      (invalid_unsought decls.data_schema (data_after call.actions state.data))

  pub check_sought : (decls : Decls) (history : List Call) (call : Call) (plan : Plan) (result : Result (List (ℕ × ChangeSet)) Answer) (said : Answer)
      → Checks decls history call plan result → result ≡ Err said → is_sought said ≡ true → HasConflict decls history plan said
  check_sought decls history call plan result said (Checks.early one e) is sought =
      let same : one ≡ said = cc in
      absurd (early_unsought decls (state_of decls history) call said (e ∙ ap Some same) sought)
  check_sought decls history call plan result said (Checks.conflicts place write none conflict) is sought =
      let same : answer.Conflict (place + 1) write ≡ said = cc in
      record { n = place; written = write; is = sym same; conflict = conflict }
  check_sought decls history call plan result said (Checks.clashes one none unread e) is sought =
      let same : one ≡ said = cc in
      absurd (named_unsought decls.names (state_of decls history).live (expanded_to (expanded_call decls (state_of decls history) call)) said (e ∙ ap Some same) sought)
  check_sought decls history call plan result said (Checks.passes unread unrefused stands) is sought = absurd cc

-- one that refusals give in special places alone
abbrev pub is_special : Answer → Bool
is_special (answer.Committed number) = true
is_special (answer.Conflict number written) = true
is_special other = false

plain_not : (x : Answer) → is_plain x ≡ true → is_special x ≡ false
plain_not (answer.Exists id) h = refl
plain_not (answer.Missing id) h = refl
plain_not (answer.Invalid path rule) h = refl
plain_not (answer.Expand id block rule) h = refl
plain_not (answer.Clash device path id) h = refl
plain_not x h = absurd (false≢true h)

abbrev Unspecial : Option Answer → Type 0
Unspecial = Unsought is_special plain_not

pub planned_uncommitted : (decls : Decls) (state : Datastore) (front : ℕ) (call : Call) (number : ℕ) → planned decls state front call ≡ Err (answer.Committed number) → ⊥
planned_uncommitted decls state front call number e = planned_unsought is_special plain_not decls state front call (answer.Committed number) e refl

-- a device that is stale
stale_unsought : (devices : List ℕ) (stale : List (Option Why)) → Unspecial (first_stale devices stale)
stale_unsought [] stale = (none_unsought is_special plain_not)
stale_unsought (device ∷ devices) stale =
    (or_unsought is_special plain_not) (stale_one device stale) (first_stale devices stale) (one (slice_get stale device)) (stale_unsought devices stale)
  where
    one : (slot : Option (Option Why)) → Unspecial (option_map_or (option_map (λ why. answer.OutOfSync device why)) slot None)
    one None = (none_unsought is_special plain_not)
    one (Some None) = (none_unsought is_special plain_not)
    one (Some (Some w)) = (other_unsought is_special plain_not) (answer.OutOfSync device w) refl

pub turned_sought : (decls : Decls) (history : List Call) (hub : Hub) (it : Waiting) (said : Answer) → IsTurnedAway decls history hub it said → is_special said ≡ true
    → HasConflict decls history it.plan said
turned_sought decls history hub it said (inl memory) sought = absurd (false≢true (ap is_special (sym memory) ∙ sought))
turned_sought decls history hub it said (inr (inl checked)) sought = (check_sought is_special plain_not) decls history it.call it.plan (Err said) said checked refl sought
turned_sought decls history hub it said (inr (inr stale)) sought = absurd (stale_unsought it.plan.held.devices hub.stale said stale.2 sought)

pub turned_uncommitted : (decls : Decls) (history : List Call) (hub : Hub) (it : Waiting) (said : Answer) → IsTurnedAway decls history hub it said → (number : ℕ) → said ≡ answer.Committed number → ⊥
turned_uncommitted decls history hub it said why number is =
    let c = turned_sought decls history hub it said why (ap is_special is) in
    let no_such : answer.Conflict (c.n + 1) c.written ≡ answer.Committed number = sym c.is ∙ is in cc

pub invalid_uncommitted : (schema : SchemaTable) (config : Config) (number : ℕ) → invalid schema config ≡ Some (answer.Committed number) → ⊥
invalid_uncommitted schema config number e = (invalid_unsought is_special plain_not) schema config (answer.Committed number) e refl

-- and one that is given up isn't committed
first_unsought : (by : ℕ → Option Outcome → Option Answer) → ((device : ℕ) (o : Option Outcome) → Unspecial (by device o)) → (duties : List Duty) (t : ℕ) (devices : List ℕ)
    → Unspecial (first_answer by duties t devices)
first_unsought by h duties t [] = (none_unsought is_special plain_not)
first_unsought by h duties t (device ∷ devices) =
    (or_unsought is_special plain_not) (by device (outcome_on duties t device)) (first_answer by duties t devices) (h device (outcome_on duties t device)) (first_unsought by h duties t devices)

refused_unsought : (device : ℕ) (o : Option Outcome) → Unspecial (refused_by device o)
refused_unsought device (Some (outcome.Refused tag)) = (other_unsought is_special plain_not) (answer.Refused device tag) refl
refused_unsought device other = (none_unsought is_special plain_not)

lost_unsought : (device : ℕ) (o : Option Outcome) → Unspecial (lost_answer device o)
lost_unsought device (Some (outcome.Lost count)) = (other_unsought is_special plain_not) (answer.LinkFault device count) refl
lost_unsought device other = (none_unsought is_special plain_not)

pub verdict_uncommitted : (duties : List Duty) (t : ℕ) (devices : List ℕ) (number : ℕ) → verdict duties t devices ≡ Some (answer.Committed number) → ⊥
verdict_uncommitted duties t devices number e =
    (cond_unsought is_special plain_not) (list_any (λ device. is_short (outcome_on duties t device)) devices) (Some answer.Memory)
    (option_or (first_answer refused_by duties t devices) (first_answer lost_answer duties t devices)) ((other_unsought is_special plain_not) answer.Memory refl)
    ((or_unsought is_special plain_not) (first_answer refused_by duties t devices) (first_answer lost_answer duties t devices)
    (first_unsought refused_by refused_unsought duties t devices) (first_unsought lost_answer lost_unsought duties t devices))
    (answer.Committed number) e refl
