-- A history without the creation and the deletion of a service is unrefused and legal.
use Rattle.std.proofs.Common.{◌≡◌, ℕ, suc, Bool, true, false, cond, not, ◌||◌, List, [], ◌∷◌, ◌++◌, map, length, All, IsTrue, None, Some, refl, sym, ap, subst, ◌∙◌, append_assoc}
use Rattle.std.specs.declared.option.Option.{Option}
use Rattle.std.specs.Prelude.{option_map}
use Rattle.std.specs.Option.{option_map_or, option_or}
use Rattle.std.specs.List.{filter, list_all, list_any, Contains}
use Rattle.std.specs.Cmp.{first_so}
use Rattle.std.specs.FinMap.{get, entries}
use Rattle.std.proofs.lemmas.List.Elements.{All-append, All-contains, All-head, All-tail, All-drop, All-weaker, Contains-append_left, Contains-push}
use Rattle.std.proofs.Math.Seq.{drop-append_seam}
use Rattle.std.specs.Cmp.Lexicographic.{bytes_decides}
use Rattle.orc_path.specs.Steps.{PathStep}
use Rattle.orc_path.specs.declared.item.Item.{Item}
use Rattle.orc_call.specs.declared.answer.Answer.TheVariants.{Clash, Exists, Missing}
use Rattle.orc_call.specs.declared.call.Call.{Call}
use Rattle.orc_call.specs.declared.call.Action.{Action}
use Rattle.orc_call.specs.declared.call.Action.TheVariants.{Create, Modify, Redeploy, Literal, Delete}
use Rattle.orc_path.specs.Reading.{path_of}
use Rattle.orc_call.specs.declared.call.DevicePut.{DevicePut}
use Rattle.orc_datastore.specs.States.{has_id, lives, opening, others, part, Datastore}
use Rattle.orc_decls.specs.Devices.{is_same_text}
use Rattle.orc_datastore.specs.Actions.{data_after, is_named_by, live_after, named, names, touched}
use Rattle.orc_decls.specs.Calls.{is_service_among, service_of, is_action, is_call, is_lawful_name, is_write}
use Rattle.orc_datastore.specs.Clashes.{clash_at, clash_from, differs, least, rivals, unequal_among, unequal_of, unequal_on}
use Rattle.orc_datastore.specs.Next.{after, clash, existence, existence_of, invalid, refusal, serving_on, expanded_call, expanded_to, unexpanded}
use Rattle.orc_datastore.specs.Histories.{fold_from, IsUnrefused}
use Rattle.orc_datastore.specs.Legal.{IsSame, AreDistinct}
use Rattle.orc_laws.specs.Histories.{Creates, Deletes, NamesOther, UnrefusedWithoutTrace, LegalWithoutTrace}
use Rattle.orc_decls.specs.declared.declarations.Decls.{Decls}
use Rattle.orc_datastore.specs.declared.service.Service.{Service}
use Rattle.orc_decls.proofs.Lists.{filter-filter, or_first, or_second}
use Rattle.orc_laws.proofs.Data.{name_no_path}
use Rattle.orc_datastore.proofs.Expanded.{other_unnamed}
use Rattle.orc_decls.proofs.Fits.{call-actions}
use Rattle.orc_datastore.proofs.Named.{created_is_new, other_way}
use Rattle.orc_datastore.proofs.Agreement.{least_none, map_nil, map_none, or_none, on_none}
use Rattle.orc_plans.proofs.Agreeing.{none_on, unrefused_parts}
use Rattle.orc_datastore.proofs.Legality.{fold_from-append, unrefused_front, unrefused_last, All-front}
use Rattle.orc_laws.proofs.Traces.{without, behind-without, gone_again, after-without, deleted_leaves_no_trace}

-- where nothing unequal is found, none is found among fewer living services

fewer_among : (p : Service → Bool) (live : List Service) (d : ℕ) (es : List (List PathStep × Item))
    → unequal_among live d es ≡ None → unequal_among (filter p live) d es ≡ None
fewer_among p live d [] h = refl
fewer_among p live d (e ∷ es) h =
    by_least (fewer_among p live d es) (least (map (λ (service : Service). service.id) (rivals live d e))) refl
  where
    by_least : (unequal_among live d es ≡ None → unequal_among (filter p live) d es ≡ None)
        → (o : Option (List ℕ)) → least (map (λ (service : Service). service.id) (rivals live d e)) ≡ o
        → unequal_among (filter p live) d (e ∷ es) ≡ None
    by_least later None is =
        let none : rivals live d e ≡ [] = map_nil _ _ (least_none _ is) in
        let fewer : rivals (filter p live) d e ≡ [] = filter-filter (λ (s : Service). differs e.1 (get (part s d) e.0)) p live ∙ ap (filter p) none in
        ap (λ (l : List Service). option_map_or (λ id. Some (e.0, id)) (least (map (λ (s : Service). s.id) l)) (unequal_among (filter p live) d es)) fewer
        ∙ later (sym (ap (λ o. option_map_or (λ id. Some (e.0, id)) o (unequal_among live d es)) is) ∙ h)
    by_least later (Some id) is =
        let found : Some (e.0, id) ≡ None = sym (ap (λ o. option_map_or (λ id. Some (e.0, id)) o (unequal_among live d es)) is) ∙ h in cc

fewer_of : (p : Service → Bool) (live : List Service) (d : ℕ) (s : Service) → unequal_of live d s ≡ None → unequal_of (filter p live) d s ≡ None
fewer_of p live d s h =
    ap (λ (l : List Service). unequal_among l d (entries (part s d))) (filter-filter (λ (x : Service). not (has_id s.id x)) p live)
    ∙ fewer_among p (others live s.id) d (entries (part s d)) h

fewer_from : (p : Service → Bool) (live services : List Service) (k : ℕ) (devices : List (List ℕ))
    → clash_from live services k devices ≡ None → clash_from (filter p live) services k devices ≡ None
fewer_from p live services k [] h = refl
fewer_from p live services k (name ∷ devices) h =
    let both = or_none (clash_at live services k) (clash_from live services (suc k) devices) h in
    let none : unequal_on live services k ≡ None = map_none (λ at. Clash k at.0 at.1) (unequal_on live services k) both.0 in
    let fewer : unequal_on (filter p live) services k ≡ None =
    on_none (filter p live) services k
    (All-weaker (λ s. unequal_of live k s ≡ None) (λ s. unequal_of (filter p live) k s ≡ None) (λ s e. fewer_of p live k s e) services
    (none_on live services k none)) in
    ap (λ o. option_or (option_map (λ at. Clash k at.0 at.1) o) (clash_from (filter p live) services (suc k) devices)) fewer
    ∙ fewer_from p live services (suc k) devices both.1

-- whether a service lives doesn't depend on another one

living_without : (live : List Service) (own id : List ℕ) → is_same_text own id ≡ false
    → list_any (has_id own) (others live id) ≡ list_any (has_id own) live
living_without [] own id h = refl
living_without (x ∷ xs) own id h = on (living_without xs own id h) (has_id id x) refl
  where
    on : list_any (has_id own) (others xs id) ≡ list_any (has_id own) xs → (t : Bool) → has_id id x ≡ t
        → list_any (has_id own) (cond (not t) (x ∷ others xs id) (others xs id)) ≡ list_any (has_id own) (x ∷ xs)
    on rest true is =
        let another : has_id own x ≡ false = ap (λ (name : List ℕ). is_same_text name own) ((bytes_decides x.id id).0 is) ∙ other_way own id h in
        rest ∙ sym (ap (λ t. t || list_any (has_id own) xs) another)
    on rest false is = ap (λ t. has_id own x || t) rest

-- what actions that don't name a service touch doesn't depend on it

touched_one : (live : List Service) (id : List ℕ) (own : Option (List ℕ)) → option_map_or (λ o. is_same_text id o) own false ≡ false
    → filter (λ s. option_map_or (λ o. is_same_text s.id o) own false) (others live id)
    ≡ filter (λ s. option_map_or (λ o. is_same_text s.id o) own false) live
touched_one [] id own h = refl
touched_one (x ∷ xs) id own h = on (touched_one xs id own h) (has_id id x) refl
  where
    mine : Service → Bool
    mine s = option_map_or (λ o. is_same_text s.id o) own false

    on : filter mine (others xs id) ≡ filter mine xs → (t : Bool) → has_id id x ≡ t
        → filter mine (cond (not t) (x ∷ others xs id) (others xs id)) ≡ filter mine (x ∷ xs)
    on rest true is =
        let another : mine x ≡ false = ap (λ (name : List ℕ). option_map_or (λ o. is_same_text name o) own false) ((bytes_decides x.id id).0 is) ∙ h in
        rest ∙ sym (ap (λ t. cond t (x ∷ filter mine xs) (filter mine xs)) another)
    on rest false is = ap (λ l. cond (mine x) (x ∷ l) l) rest

touched_without : (actions : List Action) (live : List Service) (id : List ℕ) → is_named_by actions id ≡ false
    → touched actions (others live id) ≡ touched actions live
touched_without [] live id h = refl
touched_without (action ∷ actions) live id h =
    ap (λ (l : List Service). l ++ touched actions (others live id)) (touched_one live id (named action) (or_first (names action id) (is_named_by actions id) h))
    ∙ ap (λ (l : List Service). filter (λ s. names action s.id) live ++ l) (touched_without actions live id (or_second (names action id) (is_named_by actions id) h))

-- a call that isn't refused isn't refused without a service that it doesn't name

abbrev names_too : Action → List ℕ → Bool
names_too action id = option_map_or (λ own. is_same_text id own) (service_of action) false

existence_one : (live : List Service) (action : Action) (id : List ℕ) → names_too action id ≡ false
    → existence_of (others live id) action ≡ existence_of live action
existence_one live (Create own body) id h = ap (λ t. cond t (Some (Exists own)) None) (living_without live own id (other_way id own h))
existence_one live (Modify own body) id h = ap (λ t. cond t None (Some (Missing own))) (living_without live own id (other_way id own h))
existence_one live (Redeploy own) id h = ap (λ t. cond t None (Some (Missing own))) (living_without live own id (other_way id own h))
existence_one live (Literal own writes) id h = ap (λ t. cond t (Some (Exists own)) None) (living_without live own id (other_way id own h))
existence_one live (Delete own) id h = ap (λ t. cond t None (Some (Missing own))) (living_without live own id (other_way id own h))
existence_one live other id h = refl

existence_without : (live : List Service) (actions : List Action) (id : List ℕ) → is_service_among actions id ≡ false
    → existence (others live id) actions ≡ existence live actions
existence_without live [] id h = refl
existence_without live (action ∷ actions) id h =
    ap (λ o. option_or o (existence (others live id) actions)) (existence_one live action id (or_first (names_too action id) (is_service_among actions id) h))
    ∙ ap (option_or (existence_of live action)) (existence_without live actions id (or_second (names_too action id) (is_service_among actions id) h))

clash_without : (devices : List (List ℕ)) (live : List Service) (actions : List Action) (id : List ℕ) → is_named_by actions id ≡ false
    → clash devices live actions ≡ None → clash devices (others live id) actions ≡ None
clash_without devices live actions id other h =
    let behind = live_after devices actions live in
    ap (λ (l : List Service). clash_from l (touched actions l) 0 devices) (sym (behind-without devices actions live id other))
    ∙ ap (λ (l : List Service). clash_from (others behind id) l 0 devices) (touched_without actions behind id other)
    ∙ fewer_from (λ s. not (has_id id s)) behind (touched actions behind) 0 devices h

refusal_without : (decls : Decls) (s : Datastore) (call : Call) (id : List ℕ) → NamesOther id call
    → refusal decls s call ≡ None → refusal decls (without id s) call ≡ None
refusal_without decls s call id other h =
    let exist = existence s.live call.actions in
    let broken = invalid decls.data_schema (data_after call.actions s.data) in
    let found = expanded_call decls s call in
    let acts = expanded_to found in
    let clashes = clash decls.names s.live acts in
    let less = clash decls.names (others s.live id) acts in
    let first = or_none exist (option_or broken (option_or (unexpanded found) clashes)) h in
    let second = or_none broken (option_or (unexpanded found) clashes) first.1 in
    let third = or_none (unexpanded found) clashes second.1 in
    ap (λ o. option_or o (option_or broken (option_or (unexpanded found) less))) (existence_without s.live call.actions id other ∙ first.0)
    ∙ ap (λ o. option_or o (option_or (unexpanded found) less)) second.0
    ∙ ap (λ o. option_or o less) third.0
    ∙ clash_without decls.names s.live acts id
    (other_unnamed (serving_on decls (data_after call.actions s.data)) call.actions id other) third.1

calls_without : (decls : Decls) (s : Datastore) (calls : List Call) (id : List ℕ) → All (NamesOther id) calls
    → IsUnrefused decls s calls → IsUnrefused decls (without id s) calls
calls_without decls s [] id other h = tt
calls_without decls s (call ∷ calls) id other h =
    let here : NamesOther id call = All-head (NamesOther id) call calls other in (
      refusal_without decls s call id here h.0,
      subst (λ (z : Datastore). IsUnrefused decls z calls) (after-without decls s call id here)
          (calls_without decls (after decls s call) calls id (All-tail (NamesOther id) call calls other) h.1),
    )

-- histories one after the other

unrefused_back : (decls : Decls) (s : Datastore) (a b : List Call) → IsUnrefused decls s (a ++ b) → IsUnrefused decls (fold_from decls s a) b
unrefused_back decls s [] b h = h
unrefused_back decls s (call ∷ a) b h = unrefused_back decls (after decls s call) a b h.1

unrefused_joined : (decls : Decls) (s : Datastore) (a b : List Call) → IsUnrefused decls s a → IsUnrefused decls (fold_from decls s a) b → IsUnrefused decls s (a ++ b)
unrefused_joined decls s [] b h k = k
unrefused_joined decls s (call ∷ a) b h k = (h.0, unrefused_joined decls (after decls s call) a b h.1 k)

-- the state after the two calls, and what comes later
same_behind : (decls : Decls) (s : Datastore) (before between later : List Call) (create delete : Call) (id : List ℕ) (writes : List DevicePut)
    → Creates create id writes → Deletes delete id → path_of id ≡ None → lives (fold_from decls s before).live id ≡ false → All (NamesOther id) between
    → fold_from decls s (before ++ create ∷ [] ++ between ++ delete ∷ [] ++ later) ≡ fold_from decls s (before ++ between ++ later)
same_behind decls s before between later create delete id writes makes goes none absent other =
    fold_from-append decls s (before ++ create ∷ [] ++ between ++ delete ∷ []) later
    ∙ ap (λ (z : Datastore). fold_from decls z later) (deleted_leaves_no_trace decls s before between create delete id writes makes goes none absent other)
    ∙ sym (fold_from-append decls s (before ++ between) later)

-- the service didn't live before
absent_before : (decls : Decls) (s : Datastore) (before rest : List Call) (create : Call) (id : List ℕ) (writes : List DevicePut)
    → Creates create id writes → IsUnrefused decls s (before ++ create ∷ [] ++ rest) → lives (fold_from decls s before).live id ≡ false
absent_before decls s before rest create id writes makes h =
    let at = fold_from decls s before in
    let exist : existence at.live create.actions ≡ None =
    (unrefused_parts decls at create (unrefused_last decls s before create (unrefused_front decls s (before ++ create ∷ []) rest h))).0 in
    created_is_new at.live id writes
    (or_none (existence_of at.live (Literal id writes)) None (sym (ap (existence at.live) makes) ∙ exist)).0

pub unrefused_without : UnrefusedWithoutTrace
unrefused_without decls s before between later create delete id writes makes goes none other h =
    let at = fold_from decls s before in
    let upto = unrefused_front decls s (before ++ create ∷ [] ++ between ++ delete ∷ []) later h in
    let made = unrefused_front decls s (before ++ create ∷ [] ++ between) (delete ∷ []) upto in
    let absent = absent_before decls s before between create id writes makes made in
    let created : fold_from decls s (before ++ create ∷ []) ≡ after decls at create = fold_from-append decls s before (create ∷ []) in
    let middle : IsUnrefused decls (after decls at create) between =
    subst (λ (z : Datastore). IsUnrefused decls z between) created (unrefused_back decls s (before ++ create ∷ []) between made) in
    let first : IsUnrefused decls s before =
    unrefused_front decls s before (create ∷ []) (unrefused_front decls s (before ++ create ∷ []) between made) in
    let second : IsUnrefused decls at between =
    subst (λ (z : Datastore). IsUnrefused decls z between) (gone_again decls at create id writes makes absent) (calls_without decls (after decls at create) between id other middle) in
    let third : IsUnrefused decls (fold_from decls s (before ++ between)) later =
    subst (λ (z : Datastore). IsUnrefused decls z later) (deleted_leaves_no_trace decls s before between create delete id writes makes goes none absent other)
    (unrefused_back decls s (before ++ create ∷ [] ++ between ++ delete ∷ []) later h) in
    unrefused_joined decls s (before ++ between) later (unrefused_joined decls s before between first second) third

-- a list with one element less

All-less : {X : Type 0} (P : X → Type 0) (a b : List X) (x : X) → All P (a ++ x ∷ [] ++ b) → All P (a ++ b)
All-less P a b x h =
    All-append P a b (All-front P a (x ∷ []) (All-front P (a ++ x ∷ []) b h))
    (subst (All P) (drop-append_seam (a ++ x ∷ []) b) (All-drop P (length (a ++ x ∷ [])) (a ++ x ∷ [] ++ b) h))

distinct_less : (a b : List Call) (x : Call) → AreDistinct (a ++ x ∷ [] ++ b) → AreDistinct (a ++ b)
distinct_less [] b x h = h.1
distinct_less (call ∷ a) b x h = (All-less (λ entry. IsSame entry call → ⊥) a b x h.0, distinct_less a b x h.1)

-- without the two calls
two_less : (P : List Call → Type 0) → ((a b : List Call) (x : Call) → P (a ++ x ∷ [] ++ b) → P (a ++ b))
    → (before between later : List Call) (create delete : Call)
    → P (before ++ create ∷ [] ++ between ++ delete ∷ [] ++ later) → P (before ++ between ++ later)
two_less P less before between later create delete h =
    subst P (sym (append_assoc before between later))
    (less before (between ++ later) create
    (subst P (append_assoc (before ++ create ∷ []) between later) (less (before ++ create ∷ [] ++ between) later delete h)))

-- a lawful literal service has a name that is no path's text
literal_no_path : (decls : Decls) (create : Call) (id : List ℕ) (writes : List DevicePut) → Creates create id writes → is_call decls create ≡ true
    → path_of id ≡ None
literal_no_path decls create id writes makes h =
    let all : list_all (is_action decls) (Literal id writes ∷ []) ≡ true = ap (list_all (is_action decls)) (sym makes) ∙ call-actions decls create h in
    let one = first_so (is_action decls (Literal id writes)) true all in
    name_no_path id (first_so (is_lawful_name id) _ (first_so _ (list_all (is_write decls) writes) one))

created_there : (before between later : List Call) (create delete : Call)
    → Contains (before ++ create ∷ [] ++ between ++ delete ∷ [] ++ later) create
created_there before between later create delete =
    Contains-append_left (before ++ create ∷ [] ++ between ++ delete ∷ []) later create
    (Contains-append_left (before ++ create ∷ [] ++ between) (delete ∷ []) create
    (Contains-append_left (before ++ create ∷ []) between create (Contains-push before create)))

pub legal_without : LegalWithoutTrace
legal_without decls before between later create delete id writes makes goes other legal =
    let s = opening decls in
    let made = unrefused_front decls s (before ++ create ∷ [] ++ between) (delete ∷ [])
    (unrefused_front decls s (before ++ create ∷ [] ++ between ++ delete ∷ []) later legal.unrefused) in
    let absent = absent_before decls s before between create id writes makes made in
    let none = literal_no_path decls create id writes makes
    (All-contains (λ call. IsTrue (is_call decls call)) _ create legal.lawful (created_there before between later create delete)) in (
      record {
        lawful = two_less (All (λ call. IsTrue (is_call decls call))) (All-less (λ call. IsTrue (is_call decls call)))
            before between later create delete legal.lawful;
        unrefused = unrefused_without decls s before between later create delete id writes makes goes none other legal.unrefused;
        distinct = two_less AreDistinct distinct_less before between later create delete legal.distinct;
      },
      same_behind decls s before between later create delete id writes makes goes none absent other,
    )
