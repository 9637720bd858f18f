-- What services write on one device, and what the actions of a call make of it.
use Rattle.std.proofs.Common.{◌≡◌, ℕ, Bool, true, false, cond, not, ◌||◌, List, [], ◌∷◌, ◌++◌, map, None, Some, refl, sym, ap, subst, ◌∙◌}
use Rattle.std.specs.declared.option.Option.{Option}
use Rattle.std.specs.Option.{option_map_or}
use Rattle.std.specs.List.{filter, find, flat_map, fold, list_all, list_any, Contains}
use Rattle.std.specs.Cmp.Lexicographic.{bytes_decides}
use Rattle.std.specs.FinMap.{get, empty, entries, len-empty, len-entries}
use Rattle.std.proofs.lemmas.List.{nil_from_length}
use Rattle.std.proofs.lemmas.List.Elements.{All-contains, All-head, All-tail}
use Rattle.std.proofs.lemmas.Bool.{and_from}
use Rattle.orc_path.specs.Steps.{PathStep}
use Rattle.orc_path.specs.Order.{path_cmp}
use Rattle.orc_path.specs.Items.{fits}
use Rattle.orc_path.specs.Configurations.{Config, put_item, drop_item}
use Rattle.orc_path.specs.declared.item.Item.{Item}
use Rattle.orc_call.specs.declared.call.Action.{Action}
use Rattle.orc_call.specs.declared.call.Action.TheVariants.{Literal, Delete, BasePut, BaseRemove}
use Rattle.orc_refs.specs.Live.{live_writes}
use Rattle.orc_refs.specs.Stores.{Store, written_by}
use Rattle.orc_refs.specs.Moves.{IsMoved, StartAt, are_distinct, edit_fits, edited, is_moved, items_of, put_at, writes_after}
use Rattle.orc_refs.specs.declared.moves.Move.{Move}
use Rattle.orc_refs.specs.declared.moves.BaseEdit.TheVariants as edit
use Rattle.orc_refs.proofs.ItemsLaws.{put_at-items}
use Rattle.orc_datastore.specs.States.{Datastore, expansion, has_id, lives, part}
use Rattle.orc_decls.specs.Devices.{is_same_text, name_of}
use Rattle.orc_datastore.specs.Actions.{base_step, is_named_by, live_after, live_step, name_each_once, named, names, new_services}
use Rattle.orc_datastore.specs.Touched.{is_held_by, is_touched_by, is_written_by}
use Rattle.orc_services.specs.Fitting.{fits_action, FitActions}
use Rattle.orc_datastore.specs.inside.Turns.{edits_of, held_by, move_of, turns_of}
use Rattle.orc_datastore.specs.inside.Keeping.{IsBehind, IsStoreFor, StaysOn, on_device}
use Rattle.orc_datastore.specs.declared.service.Service.{Service}
use Rattle.orc_datastore.proofs.Agreement.{first_in, later_in}
use Rattle.orc_decls.proofs.Lists.{any_none, not_true, or_first, or_second, true_not_false}
use Rattle.orc_datastore.proofs.Named.{IsOnceIn, once_first, once_later, other_way}
use Rattle.orc_datastore.proofs.Blank.{blank_part, held}

-- what the service of a name writes

abbrev pub written : List Service → ℕ → List ℕ → List PathStep → Option Item
written live device id path = live_writes (on_device live device) id path

pub absent : (live : List Service) (d : ℕ) (id : List ℕ) (p : List PathStep) → lives live id ≡ false → written live d id p ≡ None
absent [] d id p h = refl
absent (s ∷ ss) d id p h =
    ap (λ t. cond t (get (part s d) p) (written ss d id p)) (or_first (has_id id s) (lives ss id) h)
    ∙ absent ss d id p (or_second (has_id id s) (lives ss id) h)

pub appended : (xs ys : List Service) (d : ℕ) (id : List ℕ) (p : List PathStep)
    → written (xs ++ ys) d id p ≡ cond (lives xs id) (written xs d id p) (written ys d id p)
appended [] ys d id p = refl
appended (s ∷ xs) ys d id p = on (has_id id s) (appended xs ys d id p)
  where
    on : (t : Bool) → written (xs ++ ys) d id p ≡ cond (lives xs id) (written xs d id p) (written ys d id p)
        → cond t (get (part s d) p) (written (xs ++ ys) d id p)
        ≡ cond (t || lives xs id) (cond t (get (part s d) p) (written xs d id p)) (written ys d id p)
    on true rest = refl
    on false rest = rest

-- where all of the name pass
kept_filter : (q : Service → Bool) (live : List Service) (d : ℕ) (id : List ℕ) (p : List PathStep)
    → ((s : Service) → has_id id s ≡ true → q s ≡ true) → written (filter q live) d id p ≡ written live d id p
kept_filter q [] d id p h = refl
kept_filter q (s ∷ ss) d id p h = on (q s) refl (has_id id s) refl (kept_filter q ss d id p h)
  where
    on : (a : Bool) → q s ≡ a → (t : Bool) → has_id id s ≡ t → written (filter q ss) d id p ≡ written ss d id p
        → written (cond a (s ∷ filter q ss) (filter q ss)) d id p ≡ written (s ∷ ss) d id p
    on true is t has rest = ap (λ o. cond (has_id id s) (get (part s d) p) o) rest
    on false is true has rest = absurd (true_not_false (sym (h s has) ∙ is))
    on false is false has rest = rest ∙ sym (ap (λ t. cond t (get (part s d) p) (written ss d id p)) has)

-- where none of the name passes
gone_filter : (q : Service → Bool) (live : List Service) (id : List ℕ) → ((s : Service) → has_id id s ≡ true → q s ≡ false)
    → lives (filter q live) id ≡ false
gone_filter q [] id h = refl
gone_filter q (s ∷ ss) id h = on (q s) refl (has_id id s) refl (gone_filter q ss id h)
  where
    on : (a : Bool) → q s ≡ a → (t : Bool) → has_id id s ≡ t → lives (filter q ss) id ≡ false
        → lives (cond a (s ∷ filter q ss) (filter q ss)) id ≡ false
    on true is true has rest = absurd (true_not_false (sym is ∙ h s has))
    on true is false has rest = ap (λ t. t || lives (filter q ss) id) has ∙ rest
    on false is t has rest = rest

pub written-find : (live : List Service) (d : ℕ) (id : List ℕ) (p : List PathStep)
    → written live d id p ≡ option_map_or (λ (s : Service). get (part s d) p) (find (has_id id) live) None
written-find [] d id p = refl
written-find (s ∷ ss) d id p = on (has_id id s) (written-find ss d id p)
  where
    on : (t : Bool) → written ss d id p ≡ option_map_or (λ (x : Service). get (part x d) p) (find (has_id id) ss) None
        → cond t (get (part s d) p) (written ss d id p)
        ≡ option_map_or (λ (x : Service). get (part x d) p) (cond t (Some s) (find (has_id id) ss)) None
    on true rest = refl
    on false rest = rest

pub found_in : (q : Service → Bool) (live : List Service) (s : Service) → find q live ≡ Some s → Contains live s × (q s ≡ true)
found_in q [] s h = absurd cc
found_in q (x ∷ xs) s h = on (q x) refl h (found_in q xs s)
  where
    on : (t : Bool) → q x ≡ t → cond t (Some x) (find q xs) ≡ Some s → (find q xs ≡ Some s → Contains xs s × (q s ≡ true))
        → Contains (x ∷ xs) s × (q s ≡ true)
    on true is e rest =
        let same : x ≡ s = cc in
        (subst (Contains (x ∷ xs)) same (first_in x xs), ap q (sym same) ∙ is)
    on false is e rest = let later = rest e in (later_in x s xs later.0, later.1)

-- the items of a configuration

pub items_empty : (config : Config) → config ≡ empty → items_of config ≡ []
items_empty config is =
    let nothing : Config = empty in
    ap items_of is ∙ ap (map (λ row. record { path = row.0; item = row.1 })) (nil_from_length (entries nothing) (sym (len-entries nothing) ∙ len-empty path_cmp Item))

-- what an action makes of it

same_names : (action : Action) (id : List ℕ) (s : Service) → has_id id s ≡ true → names action s.id ≡ names action id
same_names action id s has = ap (names action) ((bytes_decides s.id id).0 has)

abbrev left : Action → List Service → List Service
left action live = filter (λ service. not (names action service.id)) live

new_none : (devices : List (List ℕ)) (action : Action) (id : List ℕ) → names action id ≡ false → lives (new_services devices action) id ≡ false
new_none devices (Literal own writes) id h = ap (λ t. t || false) (other_way id own h)
new_none devices other id h = refl

pub step_kept : (devices : List (List ℕ)) (action : Action) (live : List Service) (d : ℕ) (id : List ℕ) (p : List PathStep)
    → names action id ≡ false → written (live_step devices live action) d id p ≡ written live d id p
step_kept devices action live d id p h = appended (left action live) (new_services devices action) d id p ∙ on (lives (left action live) id) refl
  where
    stays : written (left action live) d id p ≡ written live d id p
    stays = kept_filter (λ (s : Service). not (names action s.id)) live d id p (λ s has. ap not (same_names action id s has ∙ h))

    on : (t : Bool) → lives (left action live) id ≡ t
        → cond t (written (left action live) d id p) (written (new_services devices action) d id p) ≡ written live d id p
    on true is = stays
    on false is =
        absent (new_services devices action) d id p (new_none devices action id h)
        ∙ sym (absent (left action live) d id p is) ∙ stays

later_kept : (devices : List (List ℕ)) (actions : List Action) (live : List Service) (d : ℕ) (id : List ℕ) (p : List PathStep)
    → is_named_by actions id ≡ false → written (live_after devices actions live) d id p ≡ written live d id p
later_kept devices [] live d id p h = refl
later_kept devices (action ∷ actions) live d id p h =
    later_kept devices actions (live_step devices live action) d id p (or_second (names action id) (is_named_by actions id) h)
    ∙ step_kept devices action live d id p (or_first (names action id) (is_named_by actions id) h)

once_unnamed : (own : Option (List ℕ)) (actions : List Action) (id : List ℕ) → option_map_or (λ own. is_same_text id own) own false ≡ true
    → IsOnceIn actions own → is_named_by actions id ≡ false
once_unnamed None actions id h once = absurd (true_not_false (sym h))
once_unnamed (Some own) actions id h once =
    ap (is_named_by actions) ((bytes_decides id own).0 h) ∙ not_true (is_named_by actions own) once

-- of what an action names only what it makes is left
step_named : (devices : List (List ℕ)) (action : Action) (actions : List Action) (live : List Service) (d : ℕ) (id : List ℕ) (p : List PathStep)
    → names action id ≡ true → name_each_once (action ∷ actions) ≡ true
    → written (live_after devices (action ∷ actions) live) d id p ≡ written (new_services devices action) d id p
step_named devices action actions live d id p h once =
    later_kept devices actions (live_step devices live action) d id p
    (once_unnamed (named action) actions id h (once_first action actions once))
    ∙ appended (left action live) (new_services devices action) d id p
    ∙ ap (λ t. cond t (written (left action live) d id p) (written (new_services devices action) d id p))
    (gone_filter (λ (s : Service). not (names action s.id)) live id (λ s has. ap not (same_names action id s has ∙ h)))

-- the moves of a call on a device

abbrev pub moves_in : List (List ℕ) → List Service → ℕ → List Action → List Move
moves_in devices live device actions = flat_map (move_of live device) (flat_map (turns_of devices) actions)

turned_true : (own id : List ℕ) → is_same_text own id ≡ true → is_same_text id own ≡ true
turned_true own id h = (bytes_decides id own).1 (sym ((bytes_decides own id).0 h))

-- a service that no action names doesn't move
unmoved : (devices : List (List ℕ)) (live : List Service) (d : ℕ) (id : List ℕ) (actions : List Action) → is_named_by actions id ≡ false
    → is_moved (moves_in devices live d actions) id ≡ false
unmoved devices live d id [] h = refl
unmoved devices live d id (Literal own ws ∷ actions) h =
    ap (λ t. t || is_moved (moves_in devices live d actions) id) (other_way id own (or_first (is_same_text id own) (is_named_by actions id) h))
    ∙ unmoved devices live d id actions (or_second (is_same_text id own) (is_named_by actions id) h)
unmoved devices live d id (Delete own ∷ actions) h =
    on (find (has_id own) live) (unmoved devices live d id actions (or_second (is_same_text id own) (is_named_by actions id) h))
  where
    on : (o : Option Service) → is_moved (moves_in devices live d actions) id ≡ false
        → is_moved (option_map_or (λ (s : Service). record { service = own; old = items_of (part s d); new = [] } ∷ []) o []
        ++ moves_in devices live d actions) id ≡ false
    on None rest = rest
    on (Some s) rest =
        ap (λ t. t || is_moved (moves_in devices live d actions) id) (other_way id own (or_first (is_same_text id own) (is_named_by actions id) h)) ∙ rest
unmoved devices live d id (other ∷ actions) h = unmoved devices live d id actions h

-- what a service that doesn't move writes stays
unmoved_writes : (ms : List Move) (writes : List ℕ → List PathStep → Option Item) (id : List ℕ) (p : List PathStep) → is_moved ms id ≡ false
    → writes_after ms writes id p ≡ writes id p
unmoved_writes [] writes id p h = refl
unmoved_writes (m ∷ ms) writes id p h =
    ap (λ t. cond t (put_at m.new p) (writes_after ms writes id p)) (or_first (is_same_text m.service id) (is_moved ms id) h)
    ∙ unmoved_writes ms writes id p (or_second (is_same_text m.service id) (is_moved ms id) h)

-- what services have written after a call is what the moves say
pub written-behind : (devices : List (List ℕ)) (before : List Service) (d : ℕ) (id : List ℕ) (p : List PathStep)
    (writes : List ℕ → List PathStep → Option Item) (actions : List Action) (live : List Service)
    → name_each_once actions ≡ true → writes id p ≡ written before d id p → writes id p ≡ written live d id p
    → written (live_after devices actions live) d id p ≡ writes_after (moves_in devices before d actions) writes id p
written-behind devices before d id p writes [] live once first h = sym h
written-behind devices before d id p writes (Literal own ws ∷ actions) live once first h =
    on (is_same_text own id) refl
    (λ same. written-behind devices before d id p writes actions (live_step devices live action) (once_later action actions once)
    first (h ∙ sym (step_kept devices action live d id p same)))
  where
    action : Action
    action = Literal own ws

    made : Service
    made = record { id = own; parts = expansion devices ws }

    rest : Option Item
    rest = writes_after (moves_in devices before d actions) writes id p

    on : (t : Bool) → is_same_text own id ≡ t
        → (names action id ≡ false → written (live_after devices actions (live_step devices live action)) d id p ≡ rest)
        → written (live_after devices (action ∷ actions) live) d id p ≡ cond (is_same_text own id) (put_at (items_of (part made d)) p) rest
    on true is later =
        step_named devices action actions live d id p (turned_true own id is) once
        ∙ ap (λ t. cond t (get (part made d) p) None) is
        ∙ sym (put_at-items (part made d) p)
        ∙ sym (ap (λ t. cond t (put_at (items_of (part made d)) p) rest) is)
    on false is later = later (other_way own id is) ∙ sym (ap (λ t. cond t (put_at (items_of (part made d)) p) rest) is)
written-behind devices before d id p writes (Delete own ∷ actions) live once first h =
    by_found (find (has_id own) before) refl
    (λ same. written-behind devices before d id p writes actions (live_step devices live action) (once_later action actions once)
    first (h ∙ sym (step_kept devices action live d id p same)))
  where
    action : Action
    action = Delete own

    rest : Option Item
    rest = writes_after (moves_in devices before d actions) writes id p

    on : (t : Bool) → is_same_text own id ≡ t
        → (names action id ≡ false → written (live_after devices actions (live_step devices live action)) d id p ≡ rest)
        → written (live_after devices (action ∷ actions) live) d id p ≡ cond (is_same_text own id) None rest
    on true is later =
        step_named devices action actions live d id p (turned_true own id is) once
        ∙ sym (ap (λ t. cond t None rest) is)
    on false is later = later (other_way own id is) ∙ sym (ap (λ t. cond t None rest) is)

    -- one that doesn't live has nothing before or after
    away : (t : Bool) → is_same_text own id ≡ t → find (has_id own) before ≡ None
        → (names action id ≡ false → written (live_after devices actions (live_step devices live action)) d id p ≡ rest)
        → written (live_after devices (action ∷ actions) live) d id p ≡ rest
    away true is none later =
        step_named devices action actions live d id p (turned_true own id is) once
        ∙ sym (unmoved_writes (moves_in devices before d actions) writes id p
        (unmoved devices before d id actions (once_unnamed (named action) actions id (turned_true own id is) (once_first action actions once)))
        ∙ first ∙ ap (λ i. written before d i p) (sym ((bytes_decides own id).0 is)) ∙ written-find before d own p
        ∙ ap (λ o. option_map_or (λ (x : Service). get (part x d) p) o None) none)
    away false is none later = later (other_way own id is)

    by_found : (o : Option Service) → find (has_id own) before ≡ o
        → (names action id ≡ false → written (live_after devices actions (live_step devices live action)) d id p ≡ rest)
        → written (live_after devices (action ∷ actions) live) d id p
        ≡ writes_after (option_map_or (λ (s : Service). record { service = own; old = items_of (part s d); new = [] } ∷ []) o []
        ++ moves_in devices before d actions) writes id p
    by_found None none later = away (is_same_text own id) refl none later
    by_found (Some s) is later = on (is_same_text own id) refl later
written-behind devices before d id p writes (other ∷ actions) live once first h =
    written-behind devices before d id p writes actions (live_step devices live other) (once_later other actions once)
    first (h ∙ sym (step_kept devices other live d id p refl))

-- what a service held is what the store has of it
held-start : (live : List Service) (d : ℕ) (store : Store) (own : List ℕ) (p : List PathStep) → IsStoreFor live d store
    → put_at (held_by live d own) p ≡ written_by store own p
held-start live d store own p for =
    on (find (has_id own) live) ∙ sym (for.of.writers own p ∙ written-find live d own p)
  where
    on : (o : Option Service) → put_at (option_map_or (λ (s : Service). items_of (part s d)) o []) p
        ≡ option_map_or (λ (s : Service). get (part s d) p) o None
    on None = refl
    on (Some s) = put_at-items (part s d) p

-- each move starts at what its service writes
pub moves-start : (devices : List (List ℕ)) (live : List Service) (d : ℕ) (store : Store) (actions : List Action) → IsStoreFor live d store
    → StartAt store (moves_in devices live d actions)
moves-start devices live d store [] for = tt
moves-start devices live d store (Literal own ws ∷ actions) for =
    (λ p. held-start live d store own p for, moves-start devices live d store actions for)
moves-start devices live d store (Delete own ∷ actions) for =
    on (find (has_id own) live) refl (moves-start devices live d store actions for)
  where
    on : (o : Option Service) → find (has_id own) live ≡ o → StartAt store (moves_in devices live d actions)
        → StartAt store (option_map_or (λ (s : Service). record { service = own; old = items_of (part s d); new = [] } ∷ []) o []
        ++ moves_in devices live d actions)
    on None is rest = rest
    on (Some s) is rest = (
      λ p. put_at-items (part s d) p
          ∙ sym (for.of.writers own p ∙ written-find live d own p ∙ ap (λ o. option_map_or (λ (x : Service). get (part x d) p) o None) is),
      rest,
    )
moves-start devices live d store (other ∷ actions) for = moves-start devices live d store actions for

-- no two moves name one service
pub moves-distinct : (devices : List (List ℕ)) (live : List Service) (d : ℕ) (actions : List Action) → name_each_once actions ≡ true
    → are_distinct (moves_in devices live d actions) ≡ true
moves-distinct devices live d [] h = refl
moves-distinct devices live d (Literal own ws ∷ actions) h =
    ap (λ t. cond t false (are_distinct (moves_in devices live d actions)))
    (unmoved devices live d own actions (not_true (is_named_by actions own) (once_first (Literal own ws) actions h)))
    ∙ moves-distinct devices live d actions (once_later (Literal own ws) actions h)
moves-distinct devices live d (Delete own ∷ actions) h =
    on (find (has_id own) live) (moves-distinct devices live d actions (once_later (Delete own) actions h))
  where
    on : (o : Option Service) → are_distinct (moves_in devices live d actions) ≡ true
        → are_distinct (option_map_or (λ (s : Service). record { service = own; old = items_of (part s d); new = [] } ∷ []) o []
        ++ moves_in devices live d actions) ≡ true
    on None rest = rest
    on (Some s) rest =
        ap (λ t. cond t false (are_distinct (moves_in devices live d actions)))
        (unmoved devices live d own actions (not_true (is_named_by actions own) (once_first (Delete own) actions h))) ∙ rest
moves-distinct devices live d (other ∷ actions) h = moves-distinct devices live d actions (once_later other actions h)

-- edits of the base

pub edited-actions : (name : List ℕ) (actions : List Action) (base : Config)
    → edited (flat_map (edits_of name) actions) base ≡ fold (base_step name) base actions
edited-actions name [] base = refl
edited-actions name (BasePut put ∷ actions) base = on (is_same_text put.device name) (λ b. edited-actions name actions b)
  where
    on : (t : Bool) → ((b : Config) → edited (flat_map (edits_of name) actions) b ≡ fold (base_step name) b actions)
        → edited (cond t (edit.Put (record { path = put.path; item = put.item }) ∷ []) [] ++ flat_map (edits_of name) actions) base
        ≡ fold (base_step name) (cond t (put_item base put.path put.item) base) actions
    on true rest = rest (put_item base put.path put.item)
    on false rest = rest base
edited-actions name (BaseRemove device path ∷ actions) base = on (is_same_text device name) (λ b. edited-actions name actions b)
  where
    on : (t : Bool) → ((b : Config) → edited (flat_map (edits_of name) actions) b ≡ fold (base_step name) b actions)
        → edited (cond t (edit.Remove path ∷ []) [] ++ flat_map (edits_of name) actions) base
        ≡ fold (base_step name) (cond t (drop_item base path) base) actions
    on true rest = rest (drop_item base path)
    on false rest = rest base
edited-actions name (other ∷ actions) base = edited-actions name actions base

pub edits-fit : (name : List ℕ) (actions : List Action) → FitActions actions → list_all edit_fits (flat_map (edits_of name) actions) ≡ true
edits-fit name [] h = refl
edits-fit name (BasePut put ∷ actions) h =
    on (is_same_text put.device name) (All-head (λ (a : Action). fits_action a ≡ true) (BasePut put) actions h)
    (edits-fit name actions (All-tail (λ (a : Action). fits_action a ≡ true) (BasePut put) actions h))
  where
    on : (t : Bool) → fits put.path put.item ≡ true → list_all edit_fits (flat_map (edits_of name) actions) ≡ true
        → list_all edit_fits (cond t (edit.Put (record { path = put.path; item = put.item }) ∷ []) [] ++ flat_map (edits_of name) actions) ≡ true
    on true f rest = and_from (fits put.path put.item) _ f rest
    on false f rest = rest
edits-fit name (BaseRemove device path ∷ actions) h =
    on (is_same_text device name) (edits-fit name actions (All-tail (λ (a : Action). fits_action a ≡ true) (BaseRemove device path) actions h))
  where
    on : (t : Bool) → list_all edit_fits (flat_map (edits_of name) actions) ≡ true
        → list_all edit_fits (cond t (edit.Remove path ∷ []) [] ++ flat_map (edits_of name) actions) ≡ true
    on true rest = rest
    on false rest = rest
edits-fit name (other ∷ actions) h = edits-fit name actions (All-tail (λ (a : Action). fits_action a ≡ true) other actions h)

-- a device that the call doesn't touch

-- moves from nothing to nothing
abbrev AreIdle : List Move → Type 0
AreIdle [] = Unit {0}
AreIdle (m ∷ ms) = ((m.old ≡ []) × (m.new ≡ [])) × AreIdle ms

idle : (store : Store) (ms : List Move) (id : List ℕ) (p : List PathStep) → StartAt store ms → AreIdle ms
    → writes_after ms (written_by store) id p ≡ written_by store id p
idle store [] id p start still = refl
idle store (m ∷ ms) id p start still = on (is_same_text m.service id) refl (idle store ms id p start.1 still.1)
  where
    on : (t : Bool) → is_same_text m.service id ≡ t → writes_after ms (written_by store) id p ≡ written_by store id p
        → cond t (put_at m.new p) (writes_after ms (written_by store) id p) ≡ written_by store id p
    on true is rest =
        ap (λ l. put_at l p) still.0.1 ∙ sym (ap (λ l. put_at l p) still.0.0) ∙ start.0 p
        ∙ ap (λ i. written_by store i p) ((bytes_decides m.service id).0 is)
    on false is rest = rest

-- what holds nothing there
nothing_held : (devices : List (List ℕ)) (state : Datastore) (d : ℕ) (own : List ℕ) → list_any (is_held_by own d) state.live ≡ false
    → held_by state.live d own ≡ []
nothing_held devices state d own h = on (find (has_id own) state.live) refl
  where
    on : (o : Option Service) → find (has_id own) state.live ≡ o → option_map_or (λ (s : Service). items_of (part s d)) o [] ≡ []
    on None is = refl
    on (Some s) is =
        let found = found_in (has_id own) state.live s is in
        let bare : is_held_by own d s ≡ false =
        All-contains (λ (x : Service). is_held_by own d x ≡ false) state.live s (any_none (is_held_by own d) state.live h) found.0 in
        items_empty _ (held (has_id own s) (part s d) found.1 bare)

moves-idle : (devices : List (List ℕ)) (state : Datastore) (d : ℕ) (actions : List Action) → list_any (is_touched_by devices state d) actions ≡ false
    → AreIdle (moves_in devices state.live d actions)
moves-idle devices state d [] h = tt
moves-idle devices state d (Literal own ws ∷ actions) h =
    let mine = is_written_by ws (name_of devices d) in
    let both = or_first (mine || list_any (is_held_by own d) state.live) (list_any (is_touched_by devices state d) actions) h in (
      (
        nothing_held devices state d own (or_second mine (list_any (is_held_by own d) state.live) both),
        items_empty _ (blank_part devices ws d (or_first mine (list_any (is_held_by own d) state.live) both)),
      ),
      moves-idle devices state d actions (or_second _ (list_any (is_touched_by devices state d) actions) h),
    )
moves-idle devices state d (Delete own ∷ actions) h =
    on (find (has_id own) state.live) refl (moves-idle devices state d actions (or_second (list_any (is_held_by own d) state.live) (list_any (is_touched_by devices state d) actions) h))
  where
    on : (o : Option Service) → find (has_id own) state.live ≡ o → AreIdle (moves_in devices state.live d actions)
        → AreIdle (option_map_or (λ (s : Service). record { service = own; old = items_of (part s d); new = [] } ∷ []) o []
        ++ moves_in devices state.live d actions)
    on None is rest = rest
    on (Some s) is rest =
        let found = found_in (has_id own) state.live s is in
        let bare : is_held_by own d s ≡ false =
        All-contains (λ (x : Service). is_held_by own d x ≡ false) state.live s
        (any_none (is_held_by own d) state.live (or_first (list_any (is_held_by own d) state.live) (list_any (is_touched_by devices state d) actions) h)) found.0 in
        ((items_empty _ (held (has_id own s) (part s d) found.1 bare), refl), rest)
moves-idle devices state d (other ∷ actions) h = moves-idle devices state d actions (or_second (is_touched_by devices state d other) (list_any (is_touched_by devices state d) actions) h)

base-stays : (devices : List (List ℕ)) (state : Datastore) (d : ℕ) (actions : List Action) (base : Config)
    → list_any (is_touched_by devices state d) actions ≡ false → fold (base_step (name_of devices d)) base actions ≡ base
base-stays devices state d [] base h = refl
base-stays devices state d (BasePut put ∷ actions) base h =
    ap (λ b. fold (base_step (name_of devices d)) b actions)
    (ap (λ t. cond t (put_item base put.path put.item) base) (or_first _ (list_any (is_touched_by devices state d) actions) h))
    ∙ base-stays devices state d actions base (or_second _ (list_any (is_touched_by devices state d) actions) h)
base-stays devices state d (BaseRemove device path ∷ actions) base h =
    ap (λ b. fold (base_step (name_of devices d)) b actions)
    (ap (λ t. cond t (drop_item base path) base) (or_first _ (list_any (is_touched_by devices state d) actions) h))
    ∙ base-stays devices state d actions base (or_second _ (list_any (is_touched_by devices state d) actions) h)
base-stays devices state d (other ∷ actions) base h =
    base-stays devices state d actions base (or_second (is_touched_by devices state d other) (list_any (is_touched_by devices state d) actions) h)

pub device-stays : (devices : List (List ℕ)) (state : Datastore) (d : ℕ) (actions : List Action) → name_each_once actions ≡ true → list_any (is_touched_by devices state d) actions ≡ false → StaysOn devices state.live actions d
device-stays devices state d actions once off = λ store for. record {
  edited = sym (base-stays devices state d actions store.base off);
  holds = record {
    sound = for.sound;
    of = record {
      over = refl;
      writers = λ id p.
          sym (idle store (moves_in devices state.live d actions) id p (moves-start devices state.live d store actions for)
          (moves-idle devices state d actions off))
          ∙ sym (written-behind devices state.live d id p (written_by store) actions state.live once (for.of.writers id p) (for.of.writers id p));
    };
  };
}

-- a device whose store the moves lead on
pub moved-behind : (devices : List (List ℕ)) (live : List Service) (d : ℕ) (actions : List Action) (store new : Store)
    → name_each_once actions ≡ true → IsStoreFor live d store
    → IsMoved store (moves_in devices live d actions) (flat_map (edits_of (name_of devices d)) actions) new
    → IsBehind devices live actions d store.base new
moved-behind devices live d actions store new once for moved = record {
  edited = moved.base ∙ edited-actions (name_of devices d) actions store.base;
  holds = record {
    sound = moved.store;
    of = record {
      over = refl;
      writers = λ id p.
          moved.written id p
          ∙ sym (written-behind devices live d id p (written_by store) actions live once (for.of.writers id p) (for.of.writers id p));
    };
  };
}
