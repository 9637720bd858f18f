-- What a call comes to still stands after one that changes nothing that its expansions read.
use Rattle.std.proofs.Common.{◌≡◌, ◌≢◌, ◌⊎◌, inl, inr, Bool, true, false, ◌||◌, List, [], ◌∷◌, All, IsTrue, None, Some, refl, sym, ap, ◌∙◌, cond}
use Rattle.std.specs.declared.option.Option.{Option}
use Rattle.std.specs.List.{Contains}
use Rattle.std.specs.FinMap.{get}
use Rattle.std.proofs.lemmas.Bool.{false≢true}
use Rattle.orc_path.specs.Steps.{PathStep}
use Rattle.orc_path.specs.Configurations.{Config, IsWay, drop_item, is_removed_with, put_item}
use Rattle.orc_path.specs.Reading.{path_of}
use Rattle.orc_path.specs.declared.item.Item.{Item}
use Rattle.orc_path.specs.declared.item.Item.TheVariants.{Entry}
use Rattle.orc_path.specs.declared.item.Write.TheVariants as write
use Rattle.orc_path.proofs.ConfigurationLaws.{get-drop_item, get-put_item-here, get-put_item-way, put_item_cases}
use Rattle.orc_schema_nodes.specs.Schemas.{shape_at}
use Rattle.orc_call.specs.declared.call.Action.{Action}
use Rattle.orc_call.specs.declared.call.Action.TheVariants.{Create, Modify, Delete, Set, Unset}
use Rattle.orc_call.specs.declared.call.Call.{Call}
use Rattle.orc_call.specs.declared.call.Put.{Put}
use Rattle.orc_expr.specs.Touches.{Covers, write_touches, write_touches_any}
use Rattle.orc_expr.specs.declared.read.Read.{Read}
use Rattle.orc_expr.specs.declared.read.Target.{Target}
use Rattle.orc_services.specs.Laws.{ExpandedStands}
use Rattle.orc_services.specs.Expanded.{ExpandedTo, expanded_actions}
use Rattle.orc_datastore.specs.States.{Datastore}
use Rattle.orc_decls.specs.Openings.{put_all}
use Rattle.orc_datastore.specs.Actions.{data_after, data_step, enter_service, leave_service}
use Rattle.orc_datastore.specs.Next.{serving_on}
use Rattle.orc_decls.specs.Calls.{is_action}
use Rattle.orc_datastore.specs.Plans.{call_reads, call_targets}
use Rattle.orc_plans.specs.Plans.{ExpandedStandsBehind}
use Rattle.orc_decls.specs.declared.declarations.Decls.{Decls}
use Rattle.orc_datastore.proofs.Agreement.{first_in, later_in}
use Rattle.orc_datastore.proofs.Planning.{changes_are_targets}

-- what actions make of a path depends on what stands there alone

here_at : (m : Config) (p : List PathStep) (item : Item) (q : List PathStep) → q ≡ p → get (put_item m p item) q ≡ Some item
here_at m p item q same = ap (get (put_item m p item)) same ∙ get-put_item-here m p item

put_same : (m n : Config) (p : List PathStep) (item : Item) (q : List PathStep) → get m q ≡ get n q
    → get (put_item m p item) q ≡ get (put_item n p item) q
put_same m n p item q h = on (put_item_cases m p item q) (put_item_cases n p item q)
  where
    on : ((q ≡ p) × (get (put_item m p item) q ≡ Some item)) ⊎ ((IsWay q p × (get (put_item m p item) q ≡ Some Entry)) ⊎ (get (put_item m p item) q ≡ get m q))
        → ((q ≡ p) × (get (put_item n p item) q ≡ Some item)) ⊎ ((IsWay q p × (get (put_item n p item) q ≡ Some Entry)) ⊎ (get (put_item n p item) q ≡ get n q))
        → get (put_item m p item) q ≡ get (put_item n p item) q
    on (inl one) other = one.1 ∙ sym (here_at n p item q one.0)
    on (inr (inl one)) other = one.1 ∙ sym (get-put_item-way n p item q one.0)
    on (inr (inr one)) (inl other) = here_at m p item q other.0 ∙ sym other.1
    on (inr (inr one)) (inr (inl other)) = get-put_item-way m p item q other.0 ∙ sym other.1
    on (inr (inr one)) (inr (inr other)) = one ∙ h ∙ sym other

drop_same : (m n : Config) (p q : List PathStep) → get m q ≡ get n q → get (drop_item m p) q ≡ get (drop_item n p) q
drop_same m n p q h = get-drop_item m p q ∙ ap (λ o. cond (is_removed_with p q) None o) h ∙ sym (get-drop_item n p q)

puts_same : (puts : List Put) (m n : Config) (q : List PathStep) → get m q ≡ get n q → get (put_all puts m) q ≡ get (put_all puts n) q
puts_same [] m n q h = h
puts_same (put ∷ puts) m n q h =
    puts_same puts (put_item m put.path put.item) (put_item n put.path put.item) q (put_same m n put.path put.item q h)

enter_same : (o : Option (List PathStep)) (body : List Put) (m n : Config) (q : List PathStep) → get m q ≡ get n q
    → get (enter_service o body m) q ≡ get (enter_service o body n) q
enter_same None body m n q h = h
enter_same (Some path) body m n q h = puts_same body (put_item m path Entry) (put_item n path Entry) q (put_same m n path Entry q h)

leave_same : (o : Option (List PathStep)) (m n : Config) (q : List PathStep) → get m q ≡ get n q → get (leave_service o m) q ≡ get (leave_service o n) q
leave_same None m n q h = h
leave_same (Some path) m n q h = drop_same m n path q h

step_same : (action : Action) (m n : Config) (q : List PathStep) → get m q ≡ get n q → get (data_step m action) q ≡ get (data_step n action) q
step_same (Create id body) m n q h = enter_same (path_of id) body m n q h
step_same (Modify id body) m n q h =
    enter_same (path_of id) body (leave_service (path_of id) m) (leave_service (path_of id) n) q (leave_same (path_of id) m n q h)
step_same (Delete id) m n q h = leave_same (path_of id) m n q h
step_same (Set put) m n q h = put_same m n put.path put.item q h
step_same (Unset path) m n q h = drop_same m n path q h
step_same other m n q h = h

pub behind_same : (actions : List Action) (m n : Config) (q : List PathStep) → get m q ≡ get n q → get (data_after actions m) q ≡ get (data_after actions n) q
behind_same [] m n q h = h
behind_same (action ∷ actions) m n q h = behind_same actions (data_step m action) (data_step n action) q (step_same action m n q h)

-- what a write touches is among the reads

touched_one : (reads : List Read) (path : List PathStep) → write_touches_any reads (write.At path) ≡ true
    → (reading : Read) × Contains reads reading × (write_touches (write.At path) reading ≡ true)
touched_one [] path h = absurd (false≢true h)
touched_one (r ∷ reads) path h = on (write_touches (write.At path) r) refl h (touched_one reads path)
  where
    on : (t : Bool) → write_touches (write.At path) r ≡ t → (t || write_touches_any reads (write.At path)) ≡ true
        → (write_touches_any reads (write.At path) ≡ true → (reading : Read) × Contains reads reading × (write_touches (write.At path) reading ≡ true))
        → (reading : Read) × Contains (r ∷ reads) reading × (write_touches (write.At path) reading ≡ true)
    on true is e rest = (r, first_in r reads, is)
    on false is e rest = let found = rest e in (found.0, later_in r found.0 reads found.1, found.2)

-- what another call changes isn't read, where none of its targets covers a read
pub unread_apart : (decls : Decls) (state : Datastore) (call other : Call) → All (λ action. IsTrue (is_action decls action)) other.actions
    → ((target : Target) (reading : Read) → Contains (call_targets other.actions) target
    → Contains (call_reads decls state call) reading → Covers target reading → ⊥)
    → (path : List PathStep) → get (data_after other.actions state.data) path ≢ get state.data path
    → write_touches_any (call_reads decls state call) (write.At path) ≡ false
unread_apart decls state call other lawful apart path differs = on (write_touches_any (call_reads decls state call) (write.At path)) refl
  where
    on : (t : Bool) → write_touches_any (call_reads decls state call) (write.At path) ≡ t → write_touches_any (call_reads decls state call) (write.At path) ≡ false
    on false is = is
    on true is =
        let found = touched_one (call_reads decls state call) path is in
        let inside = changes_are_targets decls other.actions state.data path lawful differs in
        absurd (apart inside.0 found.0 inside.1 found.1 (path, (inside.2, found.2)))

-- all that the expansions of a call come to, with what they read, stands after another one that changes none of that
pub comes_unread : ExpandedStands → (decls : Decls) (state : Datastore) (call other : Call)
    → ((path : List PathStep) → get (data_after other.actions state.data) path ≢ get state.data path
    → write_touches_any (call_reads decls state call) (write.At path) ≡ false)
    → expanded_actions (serving_on decls (data_after call.actions (data_after other.actions state.data))) call.actions
    ≡ expanded_actions (serving_on decls (data_after call.actions state.data)) call.actions
comes_unread law decls state call other unread =
    let old = data_after call.actions state.data in
    let new = data_after call.actions (data_after other.actions state.data) in
    law decls.services decls.table call.actions (shape_at decls.data_schema) old new
    (λ path differs. unread path (λ same. differs (behind_same call.actions state.data (data_after other.actions state.data) path (sym same))))

pub stands_behind : ExpandedStands → ExpandedStandsBehind
stands_behind law decls state call other lawful apart =
    ap (λ (x : ExpandedTo (List Action)). x.outcome) (comes_unread law decls state call other (unread_apart decls state call other lawful apart))
