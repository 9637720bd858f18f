-- A call that a call block gives has an encoding.
use Rattle.std.proofs.Common.{◌≡◌, ℕ, ◌<◌, ◌≤◌, ◌^◌, Bool, true, false, T, ◌&&◌, ◌||◌, not, cond, nat_le, nat_lt, List, [], ◌∷◌, ◌++◌, length, Option, None, Some, IfSome, is_some, refl, sym, subst, ◌∙◌, arith, tests, ltb-true, ltb-false, ◌⊎◌, inl, inr}
use Rattle.std.specs.declared.cmp.Ordering.{Ordering}
use Rattle.std.specs.declared.cmp.Ordering.TheVariants.{Less, Equal, Greater}
use Rattle.std.specs.Ordering.{eq_by_cmp, is_eq, is_lt}
use Rattle.std.specs.Option.{option_map_or}
use Rattle.std.specs.FinMap.{empty, entries, entries_sorted, is_sorted}
use Rattle.std.specs.FinMap.Entries.{below_all}
use Rattle.std.specs.List.{list_all, list_any, flat_map}
use Rattle.std.specs.Str.{IsUtf8}
use Rattle.std.specs.Cmp.{first_so, second_so}
use Rattle.std.specs.Cmp.Lexicographic.{bytes_decides}
use Rattle.std.proofs.lemmas.Bool.{false≢true, leb-true, not-true, or_parts}
use Rattle.std.proofs.lemmas.List.Elements.{All-cons, All-weaker}
use Rattle.std.proofs.lemmas.List.Sums.{AllPass-from_list_all}
use Rattle.std.proofs.lemmas.Str.{IsUtf8-from_ascii, IsUtf8-nil}
use Rattle.std.proofs.lemmas.Str.Ascii.{IsAscii-from_all}
use Rattle.orc_path.specs.Alphabet.{is_identifier, is_name_start, is_name_byte, is_value}
use Rattle.orc_path.specs.Limits.{is_long_name, is_long_path, is_long_step, is_long_value}
use Rattle.orc_path.specs.Steps.{PathStep, is_path}
use Rattle.orc_path.specs.Texts.{path_text}
use Rattle.orc_path.specs.Items.{fits}
use Rattle.orc_path.specs.declared.item.Item.{Item}
use Rattle.orc_path.specs.declared.item.Item.TheVariants.{Entry, Leaf}
use Rattle.orc_path.specs.declared.limits.TheConstants.{PATH_STEPS, PATH_LEN}
use Rattle.orc_path.specs.Order.{path_cmp, is_prefix}
use Rattle.orc_path.specs.Reading.{path_of}
use Rattle.orc_path.proofs.Characters.{IsUtf8-path_text}
use Rattle.orc_path.proofs.PathOf.{text_of_path}
use Rattle.orc_path.proofs.PathOrder.{path_cmp_exact}
use Rattle.orc_services.specs.Services.{list_with}
use Rattle.orc_text.proofs.Plain.{plain_parts}
use Rattle.orc_schema_nodes.specs.Schemas.{SchemaTable}
use Rattle.orc_call.specs.Fields.{Field, a_path, an_item, IsText, IsItem, IsPathAfter, AreLawful}
use Rattle.orc_call.specs.Encoding.{body_fields, device_put_fields, put_fields, puts_fields, action_fields, IsCall}
use Rattle.orc_call.specs.declared.call.Put.{Put}
use Rattle.orc_call.specs.declared.call.Call.{Call}
use Rattle.orc_call.specs.declared.call.Action.{Action}
use Rattle.orc_call.specs.declared.call.Action.TheVariants.{Create, Modify, Redeploy, Literal, Delete, Set, Unset, BasePut, BaseRemove}
use Rattle.orc_call.specs.declared.call.DevicePut.{DevicePut}
use Rattle.orc_call.specs.declared.call.TheConstants.{MOST_ACTIONS}
use Rattle.orc_decls.specs.Devices.{is_same_text, names_of}
use Rattle.orc_decls.specs.Calls.{services_once, are_below, blank_item, device_named, has_body, is_body, is_body_item, is_data_item, is_put, is_served, is_service, is_service_path, is_action, is_call, is_data_path, is_item_at, is_item_under, is_kept, is_lawful_item, is_lawful_name, is_path_under, is_write, schema_named}
use Rattle.orc_decls.specs.Openings.{put_all}
use Rattle.orc_decls.specs.Declarations.{AreDecls}
use Rattle.orc_decls.specs.declared.declarations.Decls.{Decls}
use Rattle.orc_decls.specs.declared.lawful.TheConstants.{MOST_WRITES}
use Rattle.orc_decls.proofs.Declared.{declared-named, names-lawful}
use Rattle.orc_decls.proofs.Fits.{call-actions, data-item, item-under, write-item}

either : (a b : Bool) → (a || b) ≡ true → (a ≡ true) ⊎ (b ≡ true)
either true b h = inl refl
either false b h = inr h

-- names

name_byte_low : (b : ℕ) → is_name_byte b ≡ true → b < 128
name_byte_low b h = grind (arith, tests)

start_low : (b : ℕ) → is_name_start b ≡ true → b < 128
start_low b h = grind (arith, tests)

utf8_name : (name : List ℕ) → is_identifier name ≡ true → IsUtf8 name
utf8_name [] h = IsUtf8-nil
utf8_name (b ∷ rest) h =
    IsUtf8-from_ascii (b ∷ rest) (IsAscii-from_all (b ∷ rest)
    (All-cons (λ c. c < 128) b rest (start_low b (first_so (is_name_start b) (list_all is_name_byte rest) h))
    (All-weaker (λ c. is_name_byte c ≡ true) (λ c. c < 128) (λ c. name_byte_low c) rest
    (AllPass-from_list_all is_name_byte rest (second_so (is_name_start b) (list_all is_name_byte rest) h)))))

name_text : (name : List ℕ) → is_lawful_name name ≡ true → IsText name
name_text name h =
    let short = ltb-false 64 (length name) (not-true (is_long_name name) (second_so (is_identifier name) (not (is_long_name name)) h)) in
    (omega (arith, short), utf8_name name (first_so (is_identifier name) (not (is_long_name name)) h))

-- items

short_path : (p : List PathStep) → not (is_long_path p) ≡ true → length (path_text p) ≤ PATH_LEN
short_path p h =
    let none = or_parts (nat_lt PATH_STEPS (length p)) (nat_lt PATH_LEN (length (path_text p)) || list_any is_long_step p) (not-true (is_long_path p) h) in
    ltb-false PATH_LEN (length (path_text p)) (or_parts (nat_lt PATH_LEN (length (path_text p))) (list_any is_long_step p) none.1).0

path_lawful : (p : List PathStep) → is_path p ≡ true → not (is_long_path p) ≡ true → IsPathAfter None p
path_lawful p h short = (h, (omega (arith, short_path p short), IsUtf8-path_text p h), tt)

item_lawful : (i : Item) → is_lawful_item i ≡ true → IsItem i
item_lawful Entry h = tt
item_lawful (Leaf value) h =
    let short = ltb-false 4096 (length value) (not-true (is_long_value value) (second_so (is_value value) (not (is_long_value value)) h)) in
    (omega (arith, short), (plain_parts value (first_so (is_value value) (not (is_long_value value)) h)).0)

-- an item where it may stand
placed_lawful : (p : List PathStep) (i : Item) → is_item_at p i ≡ true → AreLawful (a_path None p ∷ an_item p i ∷ [])
placed_lawful p i h =
    let path = is_path p in
    let short = not (is_long_path p) in
    let lawful = is_lawful_item i in
    let three = first_so (path && short && lawful) (fits p i) h in
    let two = first_so (path && short) lawful three in (
      path_lawful p (first_so path short two) (second_so path short two),
      ((second_so (path && short && lawful) (fits p i) h, item_lawful i (second_so (path && short) lawful three)), tt),
    )

-- a path that can carry an item
under_lawful : (schema : SchemaTable) (p : List PathStep) → is_path_under schema p ≡ true → AreLawful (a_path None p ∷ [])
under_lawful schema p under = ((placed_lawful p (blank_item p) (first_so (is_item_at p (blank_item p)) _ under)).0, tt)

unset_lawful : (schema : SchemaTable) (p : List PathStep) → is_data_path schema p ≡ true → AreLawful (a_path None p ∷ [])
unset_lawful schema p h = under_lawful schema p (first_so (is_path_under schema p) (not (is_kept p)) h)

-- writes

-- what is one of lawful names is one
known_name : (name : List ℕ) (names : List (List ℕ)) → list_all is_lawful_name names ≡ true → list_any (is_same_text name) names ≡ true → is_lawful_name name ≡ true
known_name name [] h any = absurd (false≢true any)
known_name name (n ∷ ns) h any =
    on (known_name name ns (second_so (is_lawful_name n) (list_all is_lawful_name ns) h)) (either (is_same_text name n) (list_any (is_same_text name) ns) any)
  where
    on : (list_any (is_same_text name) ns ≡ true → is_lawful_name name ≡ true) → (is_same_text name n ≡ true) ⊎ (list_any (is_same_text name) ns ≡ true) → is_lawful_name name ≡ true
    on later (inl here) = subst (λ (t : List ℕ). is_lawful_name t ≡ true) (sym ((bytes_decides name n).0 here)) (first_so (is_lawful_name n) (list_all is_lawful_name ns) h)
    on later (inr there) = later there

write_lawful : (decls : Decls) (w : DevicePut) → list_all is_lawful_name (names_of decls.devices) ≡ true → is_write decls w ≡ true → AreLawful (device_put_fields w)
write_lawful decls w h k =
    let schema = schema_named decls.schemas decls.devices w.device in
    let declared = first_so (is_some (device_named decls.devices w.device)) (is_item_under schema w.path w.item) k in
    let device = known_name w.device (names_of decls.devices) h (sym (declared-named decls.devices w.device) ∙ declared) in
    (name_text w.device device, placed_lawful w.path w.item (item-under schema w.path w.item (write-item decls w k)))

writes_lawful : (decls : Decls) (ws : List DevicePut) → list_all is_lawful_name (names_of decls.devices) ≡ true → list_all (is_write decls) ws ≡ true → AreLawful (flat_map device_put_fields ws)
writes_lawful decls [] h k = tt
writes_lawful decls (w ∷ ws) h k =
    let here = write_lawful decls w h (first_so (is_write decls w) (list_all (is_write decls) ws) k) in
    (here.0, (here.1.0, (here.1.1.0, writes_lawful decls ws h (second_so (is_write decls w) (list_all (is_write decls) ws) k))))

-- services of lists

-- the id of a service is the text of its entry's path
service_text : (decls : Decls) (id : List ℕ) → is_service decls id ≡ true → IsText id
service_text decls id h = on (path_of id) refl h
  where
    on : (o : Option (List PathStep)) → path_of id ≡ o → option_map_or (is_service_path decls) o false ≡ true → IsText id
    on None is k = absurd (false≢true k)
    on (Some path) is k =
        let named = first_so (is_data_path decls.data_schema path) (is_some (list_with decls.services path)) k in
        let placed = (unset_lawful decls.data_schema path named).0 in
        subst (λ (t : List ℕ). IsText t) (text_of_path path id is).1 placed.1

-- an item after another one
put_lawful : (before : Option (List PathStep)) (put : Put) (rest : List Field) → is_item_at put.path put.item ≡ true
    → IfSome before (λ (earlier : List PathStep). path_cmp earlier put.path ≡ Less) → AreLawful rest → AreLawful (put_fields before put ++ rest)
put_lawful before put rest h behind more =
    let placed = placed_lawful put.path put.item h in
    ((placed.0.0, placed.0.1, behind), (placed.1.0, more))

abbrev Rows : Type 0
Rows = List (List PathStep × Item)

-- what stands before each of the rows, where something does
abbrev is_before : Option (List PathStep) → Rows → Bool
is_before None rows = true
is_before (Some earlier) rows = below_all path_cmp earlier rows

before_later : (before : Option (List PathStep)) (row : List PathStep × Item) (rows : Rows) → is_before before (row ∷ rows) ≡ true → is_before before rows ≡ true
before_later None row rows h = refl
before_later (Some earlier) row rows h = second_so (is_lt (path_cmp earlier row.0)) (below_all path_cmp earlier rows) h

is_less : (o : Ordering) → is_lt o ≡ true → o ≡ Less
is_less Less h = refl
is_less Equal h = absurd (false≢true h)
is_less Greater h = absurd (false≢true h)

is_tie : (o : Ordering) → is_eq o ≡ true → o ≡ Equal
is_tie Equal h = refl
is_tie Less h = absurd (false≢true h)
is_tie Greater h = absurd (false≢true h)

is_so : (b : Bool) → T b → b ≡ true
is_so true h = refl
is_so false h = absurd h

before_first : (before : Option (List PathStep)) (row : List PathStep × Item) (rows : Rows) → is_before before (row ∷ rows) ≡ true
    → IfSome before (λ (earlier : List PathStep). path_cmp earlier row.0 ≡ Less)
before_first None row rows h = tt
before_first (Some earlier) row rows h = is_less (path_cmp earlier row.0) (first_so (is_lt (path_cmp earlier row.0)) (below_all path_cmp earlier rows) h)

-- items that are those of sorted rows below an entry stand in path order
puts_lawful : (schema : SchemaTable) (entry : List PathStep) (rows : Rows) (body : List Put) (before : Option (List PathStep)) → is_sorted path_cmp rows ≡ true
    → is_before before rows ≡ true → list_all (is_body_item schema entry) body ≡ true → are_below entry rows body ≡ true → AreLawful (puts_fields before body)
puts_lawful schema entry [] [] before sorted behind items below = tt
puts_lawful schema entry [] (put ∷ puts) before sorted behind items below = absurd (false≢true below)
puts_lawful schema entry (row ∷ rows) [] before sorted behind items below = tt
puts_lawful schema entry (row ∷ rows) (put ∷ puts) before sorted behind items below =
    on (is_prefix row.0 entry) below (puts_lawful schema entry rows (put ∷ puts) before later (before_later before row rows behind) items)
    (λ first. puts_lawful schema entry rows puts (Some put.path) later first rest)
  where
    later : is_sorted path_cmp rows ≡ true
    later = second_so (below_all path_cmp row.0 rows) (is_sorted path_cmp rows) sorted

    rest : list_all (is_body_item schema entry) puts ≡ true
    rest = second_so (is_body_item schema entry put) (list_all (is_body_item schema entry) puts) items

    here : is_item_at put.path put.item ≡ true
    here = item-under schema put.path put.item (first_so (is_put schema put) _ (first_so (is_body_item schema entry put) (list_all (is_body_item schema entry) puts) items))

    on : (t : Bool) → cond t (are_below entry rows (put ∷ puts)) (eq_by_cmp path_cmp row.0 put.path && are_below entry rows puts) ≡ true
        → (are_below entry rows (put ∷ puts) ≡ true → AreLawful (puts_fields before (put ∷ puts)))
        → (below_all path_cmp put.path rows ≡ true → are_below entry rows puts ≡ true → AreLawful (puts_fields (Some put.path) puts))
        → AreLawful (puts_fields before (put ∷ puts))
    on true b skip take = skip b
    on false b skip take =
        let same = path_cmp_exact row.0 put.path (is_tie (path_cmp row.0 put.path) (first_so (eq_by_cmp path_cmp row.0 put.path) (are_below entry rows puts) b)) in
        put_lawful before put (puts_fields (Some put.path) puts) here
        (subst (λ (p : List PathStep). IfSome before (λ (earlier : List PathStep). path_cmp earlier p ≡ Less)) same (before_first before row rows behind))
        (take (subst (λ (p : List PathStep). below_all path_cmp p rows ≡ true) same (first_so (below_all path_cmp row.0 rows) (is_sorted path_cmp rows) sorted))
        (second_so (eq_by_cmp path_cmp row.0 put.path) (are_below entry rows puts) b))

-- a service and its body
body_lawful : (decls : Decls) (id : List ℕ) (body : List Put) → is_service decls id ≡ true → has_body decls id body ≡ true → AreLawful (body_fields id body)
body_lawful decls id body h k = on (path_of id) k
  where
    on : (o : Option (List PathStep)) → option_map_or (λ entry. is_body decls.data_schema entry body) o false ≡ true → AreLawful (body_fields id body)
    on None b = absurd (false≢true b)
    on (Some entry) b =
        let few = nat_le (length body) MOST_WRITES in
        let items = list_all (is_body_item decls.data_schema entry) body in
        let rows = entries (put_all body empty) in
        let two = first_so (few && items) (are_below entry rows body) b in
        let count = leb-true (length body) MOST_WRITES (first_so few items two) in (
          service_text decls id h,
          (
            omega (arith, count),
            puts_lawful decls.data_schema entry rows body None (is_so (is_sorted path_cmp rows) (entries_sorted (put_all body empty))) refl (second_so few items two)
                (second_so (few && items) (are_below entry rows body) b),
          ),
        )

-- calls

-- a literal service's name, or the id of one of a list
deleted_text : (decls : Decls) (id : List ℕ) → (is_lawful_name id ≡ true) ⊎ (is_service decls id ≡ true) → IsText id
deleted_text decls id (inl h) = name_text id h
deleted_text decls id (inr h) = service_text decls id h

action_lawful : (decls : Decls) (a : Action) → list_all is_lawful_name (names_of decls.devices) ≡ true → is_action decls a ≡ true → AreLawful (action_fields a)
action_lawful decls (Create id body) h k =
    ((omega arith, omega arith), body_lawful decls id body (first_so (is_service decls id) (has_body decls id body) k) (second_so (is_service decls id) (has_body decls id body) k))
action_lawful decls (Modify id body) h k =
    ((omega arith, omega arith), body_lawful decls id body (first_so (is_service decls id) (has_body decls id body) k) (second_so (is_service decls id) (has_body decls id body) k))
action_lawful decls (Redeploy id) h k = ((omega arith, omega arith), (service_text decls id k, tt))
action_lawful decls (Literal id writes) h k =
    let few = nat_le (length writes) MOST_WRITES in
    let two = first_so (is_lawful_name id && few) (list_all (is_write decls) writes) k in
    let count = leb-true (length writes) MOST_WRITES (second_so (is_lawful_name id) few two) in (
      (omega arith, omega arith),
      (
        name_text id (first_so (is_lawful_name id) few two),
        (omega (arith, count), writes_lawful decls writes h (second_so (is_lawful_name id && few) (list_all (is_write decls) writes) k)),
      ),
    )
action_lawful decls (Delete id) h k = ((omega arith, omega arith), (deleted_text decls id (either (is_lawful_name id) (is_service decls id) k), tt))
action_lawful decls (Set put) h k =
    let item = first_so (is_data_item decls.data_schema put) (not (is_served decls.services put.path)) k in
    ((omega arith, omega arith), placed_lawful put.path put.item (item-under decls.data_schema put.path put.item (data-item decls.data_schema put item)))
action_lawful decls (Unset path) h k =
    ((omega arith, omega arith), unset_lawful decls.data_schema path (first_so (is_data_path decls.data_schema path) (not (is_served decls.services path)) k))
action_lawful decls (BasePut put) h k = ((omega arith, omega arith), write_lawful decls put h k)
action_lawful decls (BaseRemove device path) h k =
    let schema = schema_named decls.schemas decls.devices device in
    let declared = first_so (is_some (device_named decls.devices device)) (is_path_under schema path) k in
    let under = second_so (is_some (device_named decls.devices device)) (is_path_under schema path) k in
    let known = known_name device (names_of decls.devices) h (sym (declared-named decls.devices device) ∙ declared) in
    ((omega arith, omega arith), (name_text device known, under_lawful schema path under))

-- fields after fields
lawful-append : (fs gs : List Field) → AreLawful fs → AreLawful gs → AreLawful (fs ++ gs)
lawful-append [] gs h k = k
lawful-append (f ∷ fs) gs h k = (h.0, lawful-append fs gs h.1 k)

actions_lawful : (decls : Decls) (actions : List Action) → list_all is_lawful_name (names_of decls.devices) ≡ true → list_all (is_action decls) actions ≡ true → AreLawful (flat_map action_fields actions)
actions_lawful decls [] h k = tt
actions_lawful decls (a ∷ more) h k =
    lawful-append (action_fields a) (flat_map action_fields more) (action_lawful decls a h (first_so (is_action decls a) (list_all (is_action decls) more) k))
    (actions_lawful decls more h (second_so (is_action decls a) (list_all (is_action decls) more) k))

call_lawful : (decls : Decls) (call : Call) → list_all is_lawful_name (names_of decls.devices) ≡ true → is_call decls call ≡ true → IsCall call
call_lawful decls call h k =
    let caller = is_lawful_name call.caller in
    let numbered = nat_lt call.number (2 ^ 64) in
    let some = nat_le 1 (length call.actions) in
    let few = nat_le (length call.actions) MOST_ACTIONS in
    let three = first_so (caller && numbered && (some && few)) (list_all (is_action decls) call.actions && services_once call.actions) k in
    let two = first_so (caller && numbered) (some && few) three in
    let counted = second_so (caller && numbered) (some && few) three in (
      name_text call.caller (first_so caller numbered two),
      (
        ltb-true call.number (2 ^ 64) (second_so caller numbered two),
        (
          (leb-true 1 (length call.actions) (first_so some few counted), leb-true (length call.actions) MOST_ACTIONS (second_so some few counted)),
          actions_lawful decls call.actions h (call-actions decls call k),
        ),
      ),
    )

pub encodable : (decls : Decls) (call : Call) → AreDecls decls → is_call decls call ≡ true → IsCall call
encodable decls call are k = call_lawful decls call (names-lawful decls.schemas decls.devices are.devices) k
