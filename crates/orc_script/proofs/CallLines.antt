-- Lines of a call block keep it lawful.
use Rattle.std.proofs.Common.{◌≡◌, ◌≤◌, ◌+◌, ℕ, List, [], ◌∷◌, ◌++◌, Bool, true, false, not, ◌&&◌, nat_le, nat_lt, length, Option, Some, None, length-append, refl, ap, sym, subst, arith}
use Rattle.std.specs.List.{list_all}
use Rattle.std.specs.Option.{option_map_or}
use Rattle.std.specs.Cmp.{first_so, second_so}
use Rattle.std.specs.Cmp.Lexicographic.{bytes_decides}
use Rattle.std.proofs.lemmas.Bool.{or_from, or_parts}
use Rattle.orc_call.specs.declared.call.Action.{Action}
use Rattle.orc_call.specs.declared.call.Action.TheVariants.{Literal}
use Rattle.orc_call.specs.declared.call.TheConstants.{MOST_ACTIONS}
use Rattle.orc_decls.specs.Calls.{is_service_among, service_of, services_once}
use Rattle.orc_decls.specs.Devices.{is_same_text}
use Rattle.orc_call.specs.declared.call.Put.{Put}
use Rattle.orc_decls.specs.Calls.{has_body, is_action, is_lawful_name, is_service, is_write}
use Rattle.orc_decls.specs.declared.declarations.Decls.{Decls}
use Rattle.orc_decls.specs.declared.lawful.TheConstants.{MOST_WRITES}
use Rattle.orc_lines.specs.declared.keyword.Keyword.{Keyword}
use Rattle.orc_lines.specs.declared.keyword.Keyword.TheVariants as keyword
use Rattle.orc_script.specs.Scripts.{is_call_full, bodied_action, with_literal}
use Rattle.orc_script.specs.inside.Lawful.{AreSteps, are_begun, has_caller, is_literal_begun, is_open}
use Rattle.orc_script.specs.declared.script.Part.{Part}
use Rattle.orc_script.specs.declared.script.Part.TheVariants as part
use Rattle.orc_script.specs.declared.script.Script.{Script}
use Rattle.orc_lines.proofs.Lawful.{all_more, both}

-- the action of a call names the service of this id
abbrev pub names : Action → List ℕ → Bool
names action id = option_map_or (λ own. is_same_text id own) (service_of action) false

-- one action more names no service again

same_back : (a b : List ℕ) → is_same_text a b ≡ false → is_same_text b a ≡ false
same_back a b h = on (is_same_text b a) refl where
  on : (t : Bool) → is_same_text b a ≡ t → is_same_text b a ≡ false
  on false is = is
  on true is = absurd (let same : is_same_text a b ≡ true = (bytes_decides a b).1 (sym ((bytes_decides b a).0 is)) in cc)

-- the service that one action names, if it names one, is not the one that the other names
abbrev Differ : Option (List ℕ) → Option (List ℕ) → Type 0
Differ mine other = option_map_or (λ id. option_map_or (λ own. is_same_text id own) other false) mine false ≡ false

differ_back : (a b : Option (List ℕ)) → Differ a b → Differ b a
differ_back None None h = refl
differ_back None (Some y) h = refl
differ_back (Some x) None h = refl
differ_back (Some x) (Some y) h = same_back x y h

is_named_more : (xs : List Action) (a : Action) (id : List ℕ) → is_service_among xs id ≡ false → names a id ≡ false → is_service_among (xs ++ a ∷ []) id ≡ false
is_named_more [] a id none other = or_from (names a id) false other refl
is_named_more (x ∷ xs) a id none other =
    let parts = or_parts (names x id) (is_service_among xs id) none in
    or_from (names x id) (is_service_among (xs ++ a ∷ []) id) parts.0 (is_named_more xs a id parts.1 other)

-- no action among these names what an action names
abbrev NoneNames : List Action → Option (List ℕ) → Type 0
NoneNames xs mine = option_map_or (is_service_among xs) mine false ≡ false

first_other : (x : Action) (xs : List Action) (mine : Option (List ℕ)) → NoneNames (x ∷ xs) mine → Differ mine (service_of x)
first_other x xs None h = refl
first_other x xs (Some id) h = (or_parts (names x id) (is_service_among xs id) h).0

later_other : (x : Action) (xs : List Action) (mine : Option (List ℕ)) → NoneNames (x ∷ xs) mine → NoneNames xs mine
later_other x xs None h = refl
later_other x xs (Some id) h = (or_parts (names x id) (is_service_among xs id) h).1

head_once : (xs : List Action) (a : Action) (mine : Option (List ℕ)) → option_map_or (λ id. not (is_service_among xs id)) mine true ≡ true
    → Differ mine (service_of a) → option_map_or (λ id. not (is_service_among (xs ++ a ∷ []) id)) mine true ≡ true
head_once xs a None once other = refl
head_once xs a (Some id) once other = ap not (is_named_more xs a id (back (is_service_among xs id) once) other) where
  back : (b : Bool) → not b ≡ true → b ≡ false
  back false h = refl
  back true h = sym h

pub once_more : (xs : List Action) (a : Action) → services_once xs ≡ true → NoneNames xs (service_of a) → services_once (xs ++ a ∷ []) ≡ true
once_more [] a once none = both (option_map_or (λ id. not (is_service_among [] id)) (service_of a) true) true (alone (service_of a)) refl where
  alone : (mine : Option (List ℕ)) → option_map_or (λ id. not (is_service_among [] id)) mine true ≡ true
  alone None = refl
  alone (Some id) = refl
once_more (x ∷ xs) a once none =
    let head = option_map_or (λ id. not (is_service_among xs id)) (service_of x) true in
    both (option_map_or (λ id. not (is_service_among (xs ++ a ∷ []) id)) (service_of x) true) (services_once (xs ++ a ∷ []))
    (head_once xs a (service_of x) (first_so head (services_once xs) once) (differ_back (service_of a) (service_of x) (first_other x xs (service_of a) none)))
    (once_more xs a (second_so head (services_once xs) once) (later_other x xs (service_of a) none))

-- a service that is made or modified

pub made_lawful : (decls : Decls) (word : Keyword) (id : List ℕ) (body : List Put) → (is_service decls id && has_body decls id body) ≡ true
    → is_action decls (bodied_action word id body) ≡ true
made_lawful decls keyword.Modify id body h = h
made_lawful decls _ id body h = h

pub made_new : (xs : List Action) (word : Keyword) (id : List ℕ) (body : List Put) → is_service_among xs id ≡ false → NoneNames xs (service_of (bodied_action word id body))
made_new xs keyword.Modify id body h = h
made_new xs _ id body h = h

-- an action more

room_for : (n : ℕ) → nat_le MOST_ACTIONS n ≡ false → nat_le (n + 1) MOST_ACTIONS ≡ true
room_for n h = grind arith

room_again : (n : ℕ) → nat_lt n MOST_ACTIONS ≡ true → nat_le MOST_ACTIONS n ≡ false
room_again n h = grind arith

pub begun_more : (decls : Decls) (s : Script) (a : Action) → are_begun decls s ≡ true → is_call_full s ≡ false → is_action decls a ≡ true
    → NoneNames s.actions (service_of a) → are_begun decls (record s { actions = s.actions ++ a ∷ [] }) ≡ true
begun_more decls s a begun room lawful new =
    let more = s.actions ++ a ∷ [] in
    let all = list_all (is_action decls) s.actions in
    let once = services_once s.actions in
    let few = nat_le (length s.actions) MOST_ACTIONS in
    let later = second_so few (all && once) begun in
    both (nat_le (length more) MOST_ACTIONS) (list_all (is_action decls) more && services_once more)
    (subst (λ (n : ℕ). nat_le n MOST_ACTIONS ≡ true) (sym (length-append s.actions (a ∷ []))) (room_for (length s.actions) room))
    (both (list_all (is_action decls) more) (services_once more) (all_more (is_action decls) s.actions a (first_so all once later) lawful)
    (once_more s.actions a (second_so all once later) new))

module _ (decls : Decls) (most : ℕ) (s : Script) (h : AreSteps decls most s) where
  module _ (here : s.part ≡ part.Call) where
    so_far : (has_caller s && are_begun decls s) ≡ true
    so_far = subst (λ (p : Part). is_open decls s p ≡ true) here h.call

    pub acted : (a : Action) (actions : List Action) → is_call_full s ≡ false → is_action decls a ≡ true → NoneNames s.actions (service_of a)
        → actions ≡ s.actions ++ a ∷ [] → AreSteps decls most (record s { actions = actions })
    acted a actions room lawful new grown =
        let t : Script = record s { actions = s.actions ++ a ∷ [] } in
        let opened : is_open decls t part.Call ≡ true =
        both (has_caller s) (are_begun decls t) (first_so (has_caller s) (are_begun decls s) so_far)
        (begun_more decls s a (second_so (has_caller s) (are_begun decls s) so_far) room lawful new) in
        let all : AreSteps decls most t = record {
          steps = h.steps;
          call = subst (λ (p : Part). is_open decls t p ≡ true) (sym here) opened;
          few = h.few;
        } in
        subst (λ (xs : List Action). AreSteps decls most (record s { actions = xs })) (sym grown) all

  pub closed : s.part ≡ part.Literal → most ≤ MOST_WRITES → AreSteps decls most (with_literal s)
  closed here small =
      let call : Bool = has_caller s && are_begun decls s in
      let writes = list_all (is_write decls) s.writes in
      let free : Bool = nat_lt (length s.actions) MOST_ACTIONS && not (is_service_among s.actions s.name) in
      let known : (call && is_literal_begun decls s) ≡ true = subst (λ (p : Part). is_open decls s p ≡ true) here h.call in
      let front = first_so call (is_literal_begun decls s) known in
      let literal = second_so call (is_literal_begun decls s) known in
      let named_so = first_so (is_lawful_name s.name && writes) free literal in
      let free_so = second_so (is_lawful_name s.name && writes) free literal in
      let room = room_again (length s.actions) (first_so (nat_lt (length s.actions) MOST_ACTIONS) (not (is_service_among s.actions s.name)) free_so) in
      let new = second_so (nat_lt (length s.actions) MOST_ACTIONS) (not (is_service_among s.actions s.name)) free_so in
      let few = h.few in
      let size = few_enough (length s.writes) MOST_WRITES (omega arith) in
      record {
        steps = h.steps;
        call = both (has_caller s) (are_begun decls (with_literal s)) (first_so (has_caller s) (are_begun decls s) front)
            (begun_more decls s (Literal s.name s.writes) (second_so (has_caller s) (are_begun decls s) front) room
            (both (is_lawful_name s.name && nat_le (length s.writes) MOST_WRITES) writes
            (both (is_lawful_name s.name) (nat_le (length s.writes) MOST_WRITES) (first_so (is_lawful_name s.name) writes named_so) size)
            (second_so (is_lawful_name s.name) writes named_so))
            (not_back (is_service_among s.actions s.name) new));
        few = omega arith;
      } where
        few_enough : (n most : ℕ) → n ≤ most → nat_le n most ≡ true
        few_enough n most h = grind arith

        not_back : (b : Bool) → not b ≡ true → b ≡ false
        not_back false h = refl
        not_back true h = sym h
