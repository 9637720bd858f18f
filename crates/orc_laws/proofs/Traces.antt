-- What a service that went leaves behind: nothing.
use Rattle.std.proofs.Common.{◌≡◌, ℕ, Bool, false, cond, not, List, [], ◌∷◌, ◌++◌, All, None, refl, sym, ap, ◌∙◌, append-nil}
use Rattle.std.specs.List.{filter}
use Rattle.std.proofs.lemmas.List.Elements.{filter-append, All-head, All-tail}
use Rattle.orc_datastore.specs.States.{has_id, lives, others, expansion, Datastore}
use Rattle.orc_path.specs.Steps.{PathStep}
use Rattle.orc_path.specs.Reading.{path_of}
use Rattle.std.specs.declared.option.Option.{Option}
use Rattle.orc_services.specs.Expanded.{expanded_actions}
use Rattle.orc_datastore.specs.Actions.{bases_after, data_after, is_named_by, leave_service, live_after, live_step, new_services, names}
use Rattle.orc_datastore.specs.Next.{after, serving_on, expanded_call, expanded_to}
use Rattle.orc_datastore.proofs.Expanded.{other_unnamed}
use Rattle.orc_datastore.specs.Histories.{fold_from}
use Rattle.orc_laws.specs.Histories.{Creates, Deletes, DeletedWithoutTrace, NamesOther}
use Rattle.orc_call.specs.declared.call.Call.{Call}
use Rattle.orc_path.specs.Configurations.{Config}
use Rattle.orc_call.specs.declared.call.Action.{Action}
use Rattle.orc_call.specs.declared.call.Action.TheVariants.{Literal, Delete}
use Rattle.orc_call.specs.declared.call.DevicePut.{DevicePut}
use Rattle.orc_decls.specs.declared.declarations.Decls.{Decls}
use Rattle.orc_datastore.specs.declared.service.Service.{Service}
use Rattle.orc_datastore.proofs.Bases.{bases_still}
use Rattle.orc_decls.proofs.Lists.{any_none, filter_all, filter-filter, or_first, or_second}
use Rattle.orc_datastore.proofs.Named.{is_text_itself, all_not, made_others}
use Rattle.orc_datastore.proofs.Legality.{fold_from-append}

-- the state without the service of a name
abbrev pub without : List ℕ → Datastore → Datastore
without id s = record s { live = others s.live id }

-- the services but one that doesn't live are all
pub without_absent : (id : List ℕ) (live : List Service) → lives live id ≡ false → others live id ≡ live
without_absent id live h = filter_all (λ s. not (has_id id s)) live (all_not (has_id id) live (any_none (has_id id) live h))

-- an action that doesn't name a service makes none of its name
made_stay : (devices : List (List ℕ)) (action : Action) (id : List ℕ) → names action id ≡ false
    → others (new_services devices action) id ≡ new_services devices action
made_stay devices action id h =
    filter_all (λ s. not (has_id id s)) (new_services devices action) (all_not (has_id id) (new_services devices action) (made_others devices action id h))

-- to go without a service and to do actions that don't name it come to the same in either order
pub behind-without : (devices : List (List ℕ)) (actions : List Action) (live : List Service) (id : List ℕ) → is_named_by actions id ≡ false
    → others (live_after devices actions live) id ≡ live_after devices actions (others live id)
behind-without devices [] live id h = refl
behind-without devices (action ∷ actions) live id h =
    let left : Service → Bool = λ s. not (names action s.id) in
    let made = new_services devices action in
    let step : others (live_step devices live action) id ≡ live_step devices (others live id) action =
    filter-append (λ s. not (has_id id s)) (filter left live) made
    ∙ ap (λ (l : List Service). l ++ others made id) (filter-filter (λ s. not (has_id id s)) left live)
    ∙ ap (λ (l : List Service). filter left (others live id) ++ l) (made_stay devices action id (or_first (names action id) (is_named_by actions id) h)) in
    behind-without devices actions (live_step devices live action) id (or_second (names action id) (is_named_by actions id) h)
    ∙ ap (live_after devices actions) step

pub after-without : (decls : Decls) (s : Datastore) (call : Call) (id : List ℕ) → NamesOther id call
    → without id (after decls s call) ≡ after decls (without id s) call
after-without decls s call id h =
    let acts = expanded_to (expanded_call decls s call) in
    let with_live : List Service → Datastore = λ live. record s { «data» = data_after call.actions s.data; bases = bases_after decls.names acts s.bases; live = live } in
    ap with_live (behind-without decls.names acts s.live id
    (other_unnamed (serving_on decls (data_after call.actions s.data)) call.actions id h))

fold-without : (decls : Decls) (s : Datastore) (calls : List Call) (id : List ℕ) → All (NamesOther id) calls
    → without id (fold_from decls s calls) ≡ fold_from decls (without id s) calls
fold-without decls s [] id h = refl
fold-without decls s (call ∷ calls) id h =
    fold-without decls (after decls s call) calls id (All-tail (NamesOther id) call calls h)
    ∙ ap (λ (z : Datastore). fold_from decls z calls) (after-without decls s call id (All-head (NamesOther id) call calls h))

-- the state after a call of these actions
abbrev after_all : Decls → Datastore → List Action → Datastore
after_all decls s actions =
    let acts = expanded_to (expanded_actions (serving_on decls (data_after actions s.data)) actions).outcome in
    record s { «data» = data_after actions s.data; bases = bases_after decls.names acts s.bases; live = live_after decls.names acts s.live }

-- the state after a call that deletes a service, and after one that makes one
pub after-deletes : (decls : Decls) (s : Datastore) (call : Call) (id : List ℕ) → Deletes call id → path_of id ≡ None → after decls s call ≡ without id s
after-deletes decls s call id h none =
    ap (after_all decls s) h
    ∙ ap (λ (o : Option (List PathStep)). record s { «data» = leave_service o s.data; bases = bases_after decls.names (Delete id ∷ []) s.bases; live = others s.live id ++ [] }) none
    ∙ ap (λ (b : List Config). record s { bases = b; live = others s.live id ++ [] }) (bases_still (Delete id) (λ name base. refl) decls.names s.bases)
    ∙ ap (λ (l : List Service). record s { live = l }) (append-nil (others s.live id))

-- a service that is made and goes again leaves the state as it was
pub gone_again : (decls : Decls) (s : Datastore) (call : Call) (id : List ℕ) (writes : List DevicePut) → Creates call id writes → lives s.live id ≡ false
    → without id (after decls s call) ≡ s
gone_again decls s call id writes makes absent =
    let service : Service = record { id = id; parts = expansion decls.names writes } in
    let gone : others (service ∷ []) id ≡ [] = ap (λ t. cond (not t) (service ∷ []) []) (is_text_itself id) in
    ap (λ (z : Datastore). without id z) (ap (after_all decls s) makes)
    ∙ ap (λ (b : List Config). record s { bases = b; live = others (others s.live id ++ service ∷ []) id }) (bases_still (Literal id writes) (λ name base. refl) decls.names s.bases)
    ∙ ap (λ (l : List Service). record s { live = l })
    (filter-append (λ x. not (has_id id x)) (others s.live id) (service ∷ [])
    ∙ ap (λ (l : List Service). others (others s.live id) id ++ l) gone ∙ append-nil (others (others s.live id) id)
    ∙ ap (λ (l : List Service). others l id) (without_absent id s.live absent) ∙ without_absent id s.live absent)

pub deleted_leaves_no_trace : DeletedWithoutTrace
deleted_leaves_no_trace decls s before between create delete id writes makes goes none absent other =
    let at = fold_from decls s before in
    let middle : fold_from decls s (before ++ create ∷ [] ++ between) ≡ fold_from decls (after decls at create) between =
    fold_from-append decls s (before ++ create ∷ []) between
    ∙ ap (λ (z : Datastore). fold_from decls z between) (fold_from-append decls s before (create ∷ [])) in
    fold_from-append decls s (before ++ create ∷ [] ++ between) (delete ∷ [])
    ∙ ap (λ (z : Datastore). after decls z delete) middle
    ∙ after-deletes decls (fold_from decls (after decls at create) between) delete id goes none
    ∙ fold-without decls (after decls at create) between id other
    ∙ ap (λ (z : Datastore). fold_from decls z between) (gone_again decls at create id writes makes absent)
    ∙ sym (fold_from-append decls s before between)
