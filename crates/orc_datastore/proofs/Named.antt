-- The services that actions name, delete and make.
use Rattle.std.proofs.Common.{◌≡◌, ℕ, Bool, true, false, cond, not, List, [], ◌∷◌, ◌++◌, All, None, Some, refl, sym, ap, ◌∙◌, append_assoc, append-nil}
use Rattle.std.specs.declared.option.Option.{Option}
use Rattle.std.specs.Option.{option_map_or}
use Rattle.std.specs.List.{filter, flat_map, Contains}
use Rattle.std.specs.Cmp.{first_so, second_so}
use Rattle.std.specs.Cmp.Lexicographic.{bytes_decides}
use Rattle.std.proofs.lemmas.List.Elements.{filter-append, All-nil, All-cons, All-append, All-weaker, All-contains_itself}
use Rattle.orc_call.specs.declared.answer.Answer.TheVariants.{Exists}
use Rattle.orc_call.specs.declared.call.Action.{Action}
use Rattle.orc_call.specs.declared.call.Action.TheVariants.{Literal}
use Rattle.orc_datastore.specs.States.{expansion, lives}
use Rattle.orc_decls.specs.Devices.{is_same_text}
use Rattle.orc_datastore.specs.Actions.{is_named_by, live_after, new_services, name_each_once, named, names, touched}
use Rattle.orc_datastore.specs.Next.{existence_of}
use Rattle.orc_datastore.specs.declared.service.Service.{Service}
use Rattle.orc_decls.proofs.Lists.{or_first, or_second, not_true, filter_neither, filter_all, filter_none, filter_passes}

-- texts

pub is_text_itself : (id : List ℕ) → is_same_text id id ≡ true
is_text_itself id = (bytes_decides id id).1 refl

pub other_way : (own id : List ℕ) → is_same_text own id ≡ false → is_same_text id own ≡ false
other_way own id h = on (is_same_text id own) refl
  where
    on : (t : Bool) → is_same_text id own ≡ t → t ≡ false
    on false is = refl
    on true is = let same : is_same_text own id ≡ true = (bytes_decides own id).1 (sym ((bytes_decides id own).0 is)) in sym same ∙ h

-- what actions that name each service at most once make

-- the service that an action names is named by none of the others
abbrev pub IsOnceIn : List Action → Option (List ℕ) → Type 0
IsOnceIn actions own = option_map_or (λ id. not (is_named_by actions id)) own true ≡ true

pub once_first : (action : Action) (actions : List Action) → name_each_once (action ∷ actions) ≡ true → IsOnceIn actions (named action)
once_first action actions h = first_so (option_map_or (λ id. not (is_named_by actions id)) (named action) true) (name_each_once actions) h

pub once_later : (action : Action) (actions : List Action) → name_each_once (action ∷ actions) ≡ true → name_each_once actions ≡ true
once_later action actions h = second_so (option_map_or (λ id. not (is_named_by actions id)) (named action) true) (name_each_once actions) h

-- an action names what it makes
pub made_named : (devices : List (List ℕ)) (action : Action) → All (λ s. names action s.id ≡ true) (new_services devices action)
made_named devices (Literal id writes) =
    let made : Service = record { id = id; parts = expansion devices writes } in
    All-cons (λ (s : Service). is_same_text s.id id ≡ true) made [] (is_text_itself id) (All-nil (λ (s : Service). is_same_text s.id id ≡ true))
made_named devices other = All-nil (λ (s : Service). names other s.id ≡ true)

-- none of the later ones does
pub made_unnamed : (devices : List (List ℕ)) (action : Action) (actions : List Action) → IsOnceIn actions (named action)
    → All (λ s. is_named_by actions s.id ≡ false) (new_services devices action)
made_unnamed devices (Literal id writes) actions h =
    let made : Service = record { id = id; parts = expansion devices writes } in
    All-cons (λ (s : Service). is_named_by actions s.id ≡ false) made [] (not_true (is_named_by actions id) h)
    (All-nil (λ (s : Service). is_named_by actions s.id ≡ false))
made_unnamed devices other actions h = All-nil (λ (s : Service). is_named_by actions s.id ≡ false)

-- what an action makes doesn't have a name that it doesn't name
pub made_others : (devices : List (List ℕ)) (action : Action) (own : List ℕ) → names action own ≡ false
    → All (λ s. is_same_text s.id own ≡ false) (new_services devices action)
made_others devices (Literal id writes) own h =
    let made : Service = record { id = id; parts = expansion devices writes } in
    All-cons (λ (s : Service). is_same_text s.id own ≡ false) made [] (other_way own id h) (All-nil (λ (s : Service). is_same_text s.id own ≡ false))
made_others devices other own h = All-nil (λ (s : Service). is_same_text s.id own ≡ false)

all_made_others : (devices : List (List ℕ)) (own : List ℕ) (actions : List Action) → is_named_by actions own ≡ false
    → All (λ s. is_same_text s.id own ≡ false) (flat_map (new_services devices) actions)
all_made_others devices own [] h = All-nil (λ (s : Service). is_same_text s.id own ≡ false)
all_made_others devices own (action ∷ actions) h =
    All-append (λ (s : Service). is_same_text s.id own ≡ false) (new_services devices action) (flat_map (new_services devices) actions)
    (made_others devices action own (or_first (names action own) (is_named_by actions own) h))
    (all_made_others devices own actions (or_second (names action own) (is_named_by actions own) h))

-- what later actions make is not named by one that names another service
later_unnamed : (devices : List (List ℕ)) (own : Option (List ℕ)) (actions : List Action) → IsOnceIn actions own
    → All (λ s. option_map_or (λ id. is_same_text s.id id) own false ≡ false) (flat_map (new_services devices) actions)
later_unnamed devices None actions h =
    All-weaker (Contains made) (λ (s : Service). false ≡ false) (λ s c. refl) made (All-contains_itself made)
  where
    made : List Service
    made = flat_map (new_services devices) actions
later_unnamed devices (Some own) actions h = all_made_others devices own actions (not_true (is_named_by actions own) h)

-- the living services after actions

-- those of the services that none of the actions names
abbrev pub unnamed : List Action → List Service → List Service
unnamed actions live = filter (λ service. not (is_named_by actions service.id)) live

not_false : (b : Bool) → b ≡ false → not b ≡ true
not_false true h = cc
not_false false h = refl

pub all_not : {X : Type 0} (p : X → Bool) (xs : List X) → All (λ x. p x ≡ false) xs → All (λ x. not (p x) ≡ true) xs
all_not p xs h = All-weaker (λ x. p x ≡ false) (λ x. not (p x) ≡ true) (λ x e. not_false (p x) e) xs h

pub behind-once : (devices : List (List ℕ)) (actions : List Action) (live : List Service) → name_each_once actions ≡ true
    → live_after devices actions live ≡ unnamed actions live ++ flat_map (new_services devices) actions
behind-once devices [] live h =
    sym (filter_all (λ (s : Service). not false) live (All-weaker (Contains live) (λ s. not false ≡ true) (λ s c. refl) live (All-contains_itself live)))
    ∙ sym (append-nil (filter (λ (s : Service). not false) live))
behind-once devices (action ∷ actions) live h =
    let made = new_services devices action in
    let later = flat_map (new_services devices) actions in
    let left = filter (λ (s : Service). not (names action s.id)) live in
    let stay : unnamed actions made ≡ made =
    filter_all (λ (s : Service). not (is_named_by actions s.id)) made
    (all_not (λ (s : Service). is_named_by actions s.id) made (made_unnamed devices action actions (once_first action actions h))) in
    behind-once devices actions (left ++ made) (once_later action actions h)
    ∙ ap (λ (l : List Service). l ++ later) (filter-append (λ (s : Service). not (is_named_by actions s.id)) left made)
    ∙ ap (λ (l : List Service). (unnamed actions left ++ l) ++ later) stay
    ∙ ap (λ (l : List Service). (l ++ made) ++ later) (filter_neither (λ (s : Service). names action s.id) (λ (s : Service). is_named_by actions s.id) live)
    ∙ append_assoc (unnamed (action ∷ actions) live) made later

-- those that actions touch are those that they make
touched_behind : (devices : List (List ℕ)) (actions : List Action) (before : List Service) → All (λ s. is_named_by actions s.id ≡ false) before
    → name_each_once actions ≡ true → touched actions (before ++ flat_map (new_services devices) actions) ≡ flat_map (new_services devices) actions
touched_behind devices [] before un h = refl
touched_behind devices (action ∷ actions) before un h =
    let made = new_services devices action in
    let later = flat_map (new_services devices) actions in
    let mine : Service → Bool = λ s. names action s.id in
    let none : filter mine before ≡ [] =
    filter_none mine before (All-weaker (λ s. is_named_by (action ∷ actions) s.id ≡ false) (λ s. mine s ≡ false)
    (λ s e. or_first (names action s.id) (is_named_by actions s.id) e) before un) in
    let own : filter mine made ≡ made = filter_all mine made (made_named devices action) in
    let not_later : filter mine later ≡ [] = filter_none mine later (later_unnamed devices (named action) actions (once_first action actions h)) in
    let first : filter mine (before ++ (made ++ later)) ≡ made =
    filter-append mine before (made ++ later)
    ∙ ap (λ (l : List Service). l ++ filter mine (made ++ later)) none
    ∙ filter-append mine made later
    ∙ ap (λ (l : List Service). l ++ filter mine later) own
    ∙ ap (λ (l : List Service). made ++ l) not_later
    ∙ append-nil made in
    let still : All (λ (s : Service). is_named_by actions s.id ≡ false) (before ++ made) =
    All-append (λ (s : Service). is_named_by actions s.id ≡ false) before made
    (All-weaker (λ s. is_named_by (action ∷ actions) s.id ≡ false) (λ s. is_named_by actions s.id ≡ false)
    (λ s e. or_second (names action s.id) (is_named_by actions s.id) e) before un)
    (made_unnamed devices action actions (once_first action actions h)) in
    let rest : touched actions (before ++ (made ++ later)) ≡ later =
    ap (touched actions) (sym (append_assoc before made later))
    ∙ touched_behind devices actions (before ++ made) still (once_later action actions h) in
    ap (λ (l : List Service). l ++ touched actions (before ++ (made ++ later))) first
    ∙ ap (λ (l : List Service). made ++ l) rest

pub touched-once : (devices : List (List ℕ)) (actions : List Action) (live : List Service) → name_each_once actions ≡ true
    → touched actions (live_after devices actions live) ≡ flat_map (new_services devices) actions
touched-once devices actions live h =
    ap (touched actions) (behind-once devices actions live h)
    ∙ touched_behind devices actions (unnamed actions live)
    (All-weaker (λ (s : Service). not (is_named_by actions s.id) ≡ true) (λ s. is_named_by actions s.id ≡ false)
    (λ s e. not_true (is_named_by actions s.id) e) (unnamed actions live) (filter_passes (λ (s : Service). not (is_named_by actions s.id)) live)) h

-- where no action is at fault

-- what is created doesn't live
pub created_is_new : (live : List Service) (id : List ℕ) (writes : _) → existence_of live (Literal id writes) ≡ None → lives live id ≡ false
created_is_new live id writes h = on (lives live id) h
  where
    on : (t : Bool) → cond t (Some (Exists id)) None ≡ None → t ≡ false
    on true e = cc
    on false e = refl
