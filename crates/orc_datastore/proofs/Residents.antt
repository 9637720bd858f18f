-- The entries of living services and of the devices on which they have items.
use Rattle.std.proofs.Common.{◌≡◌, ◌≢◌, ℕ, zero, suc, ◌+◌, ◌<◌, ◌≤◌, ◌^◌, ◌==◌, Bool, true, false, cond, not, ◌&&◌, ◌||◌, List, [], ◌∷◌, ◌++◌, length, All, None, Some, is_some, refl, sym, ap, ◌∙◌, subst, arith, append_assoc}
use Rattle.std.specs.declared.option.Option.{Option}
use Rattle.std.specs.Option.{option_map_or}
use Rattle.std.specs.Prelude.{slice_get}
use Rattle.std.specs.Bool.{Decides}
use Rattle.std.specs.Cmp.{unsigned_Decides}
use Rattle.std.specs.List.{fold, list_any}
use Rattle.std.specs.Cmp.Lexicographic.{bytes_decides}
use Rattle.std.specs.Ordering.{eq_by_cmp}
use Rattle.std.specs.FinMap.{empty, get, empty_of_len, get-empty, get-insert, len, len-empty}
use Rattle.std.proofs.lemmas.Bool.Decides.{Decides-like}
use Rattle.std.proofs.lemmas.Fmt.{decimal_injective}
use Rattle.std.proofs.lemmas.List.Elements.{All-head, All-tail}
use Rattle.std.proofs.Math.Bool.{or-false, and-false, and-true, or_comm}
use Rattle.orc_path.specs.Steps.{PathStep}
use Rattle.orc_path.specs.Order.{path_cmp}
use Rattle.orc_path.specs.Configurations.{Config, is_removed_with, put_item}
use Rattle.orc_path.specs.declared.item.Item.{Item}
use Rattle.orc_path.specs.declared.item.Item.TheVariants.{Entry}
use Rattle.orc_path.proofs.ConfigurationLaws.{get-drop_item, path_ties, same_path}
use Rattle.orc_path.proofs.PathOrder.{path_cmp_total}
use Rattle.orc_datastore.specs.States.{config_of, has_id, lives, others, part}
use Rattle.orc_decls.specs.Devices.{is_same_text}
use Rattle.orc_datastore.specs.Touched.{is_held_by}
use Rattle.orc_datastore.specs.Snapshots.{KnowsLiving, device_row, device_step, is_entered, service_entry, service_step}
use Rattle.orc_datastore.specs.inside.Sights.{enter_living, enter_parts, leave_living}
use Rattle.orc_datastore.specs.inside.Turns.{left_by}
use Rattle.orc_datastore.specs.declared.service.Service.{Service}
use Rattle.orc_datastore.proofs.Named.{is_text_itself}

-- tests that say the same

pub same_test : (s t : Bool) → (s ≡ true → t ≡ true) → (t ≡ true → s ≡ true) → s ≡ t
same_test true t f g = sym (f refl)
same_test false true f g = g refl
same_test false false f g = refl

pub not_so : (b : Bool) → (b ≡ true → ⊥) → b ≡ false
not_so true h = absurd (h refl)
not_so false h = refl

pub text_swap : (a b : List ℕ) → is_same_text a b ≡ is_same_text b a
text_swap a b =
    same_test (is_same_text a b) (is_same_text b a)
    (λ h. (bytes_decides b a).1 (sym ((bytes_decides a b).0 h))) (λ h. (bytes_decides a b).1 (sym ((bytes_decides b a).0 h)))

-- a configuration without items

pub bare : (m : Config) → Decides (len m == 0) (m ≡ empty)
bare m =
    Decides-like (len m == 0) (λ (e : len m ≡ 0). empty_of_len m e) (λ (e : m ≡ empty). ap (λ (n : Config). len n) e ∙ len-empty path_cmp Item)
    (unsigned_Decides (len m) 0)

-- the paths

abbrev key_at : ℕ → List PathStep → List ℕ
key_at n path = option_map_or (λ (step : PathStep). option_map_or (λ (key : List ℕ). key) (slice_get step.keys 0) []) (slice_get path n) []

same_entry : (own id : List ℕ) → eq_by_cmp path_cmp (service_entry own) (service_entry id) ≡ is_same_text own id
same_entry own id =
    same_test (eq_by_cmp path_cmp (service_entry own) (service_entry id)) (is_same_text own id)
    (λ h. (bytes_decides own id).1 (ap (key_at 0) (same_path (service_entry own) (service_entry id) h)))
    (λ h. path_ties (service_entry own) (service_entry id) (ap service_entry ((bytes_decides own id).0 h)))

entry_no_row : (own id : List ℕ) (d : ℕ) → eq_by_cmp path_cmp (service_entry own) (device_row id d) ≡ false
entry_no_row own id d =
    not_so (eq_by_cmp path_cmp (service_entry own) (device_row id d))
    (λ h. let long : 1 ≡ 2 = ap (λ (p : List PathStep). length p) (same_path (service_entry own) (device_row id d) h) in omega (arith, long))

row_no_entry : (own id : List ℕ) (d : ℕ) → eq_by_cmp path_cmp (device_row own d) (service_entry id) ≡ false
row_no_entry own id d =
    not_so (eq_by_cmp path_cmp (device_row own d) (service_entry id))
    (λ h. let long : 2 ≡ 1 = ap (λ (p : List PathStep). length p) (same_path (device_row own d) (service_entry id) h) in omega (arith, long))

row_here : (own id : List ℕ) (d : ℕ) → eq_by_cmp path_cmp (device_row own d) (device_row id d) ≡ is_same_text own id
row_here own id d =
    same_test (eq_by_cmp path_cmp (device_row own d) (device_row id d)) (is_same_text own id)
    (λ h. (bytes_decides own id).1 (ap (key_at 0) (same_path (device_row own d) (device_row id d) h)))
    (λ h. path_ties (device_row own d) (device_row id d) (ap (λ (name : List ℕ). device_row name d) ((bytes_decides own id).0 h)))

row_other : (own id : List ℕ) (d n : ℕ) → d < 2 ^ 32 → n < 2 ^ 32 → d ≢ n → eq_by_cmp path_cmp (device_row own d) (device_row id n) ≡ false
row_other own id d n small few differ =
    not_so (eq_by_cmp path_cmp (device_row own d) (device_row id n))
    (λ h. differ (decimal_injective d n (omega (arith, small)) (omega (arith, few)) (ap (key_at 1) (same_path (device_row own d) (device_row id n) h))))

-- entering

enters : (t : Bool) (o : Option Item) → is_some (cond t (Some Entry) o) ≡ (t || is_some o)
enters true o = refl
enters false o = refl

entry_put : (m : Config) (id : List ℕ) (q : List PathStep)
    → is_entered (put_item m (service_entry id) Entry) q ≡ (eq_by_cmp path_cmp q (service_entry id) || is_entered m q)
entry_put m id q =
    ap is_some (get-insert path_cmp_total m (service_entry id) Entry q) ∙ enters (eq_by_cmp path_cmp q (service_entry id)) (get m q)

row_put : (m : Config) (id : List ℕ) (n : ℕ) (q : List PathStep)
    → is_entered (put_item m (device_row id n) Entry) q
    ≡ (eq_by_cmp path_cmp q (device_row id n) || (eq_by_cmp path_cmp q (service_entry id) || is_entered m q))
row_put m id n q =
    ap is_some (get-insert path_cmp_total (put_item m (service_entry id) Entry) (device_row id n) Entry q)
    ∙ enters (eq_by_cmp path_cmp q (device_row id n)) (get (put_item m (service_entry id) Entry) q)
    ∙ ap (λ t. eq_by_cmp path_cmp q (device_row id n) || t) (entry_put m id q)

-- what becomes of what is known by one part
abbrev enter_one : List ℕ → ℕ → Config → Config → Config
enter_one id n c m = cond (len c == 0) m (put_item m (device_row id n) Entry)

one_entry : (id own : List ℕ) (n : ℕ) (c m : Config) → is_entered m (service_entry id) ≡ true
    → is_entered (enter_one id n c m) (service_entry own) ≡ is_entered m (service_entry own)
one_entry id own n c m there = on (len c == 0)
  where
    by : (t : Bool) → is_same_text own id ≡ t → (t || is_entered m (service_entry own)) ≡ is_entered m (service_entry own)
    by true is = sym (ap (λ (name : List ℕ). is_entered m (service_entry name)) ((bytes_decides own id).0 is) ∙ there)
    by false is = refl

    on : (t : Bool) → is_entered (cond t m (put_item m (device_row id n) Entry)) (service_entry own) ≡ is_entered m (service_entry own)
    on true = refl
    on false =
        row_put m id n (service_entry own)
        ∙ ap (λ t. t || (eq_by_cmp path_cmp (service_entry own) (service_entry id) || is_entered m (service_entry own))) (entry_no_row own id n)
        ∙ ap (λ t. t || is_entered m (service_entry own)) (same_entry own id) ∙ by (is_same_text own id) refl

one_other : (id own : List ℕ) (n d : ℕ) (c m : Config) → d < 2 ^ 32 → n < 2 ^ 32 → d ≢ n
    → is_entered (enter_one id n c m) (device_row own d) ≡ is_entered m (device_row own d)
one_other id own n d c m small few differ = on (len c == 0)
  where
    on : (t : Bool) → is_entered (cond t m (put_item m (device_row id n) Entry)) (device_row own d) ≡ is_entered m (device_row own d)
    on true = refl
    on false =
        row_put m id n (device_row own d)
        ∙ ap (λ t. t || (eq_by_cmp path_cmp (device_row own d) (service_entry id) || is_entered m (device_row own d))) (row_other own id d n small few differ)
        ∙ ap (λ t. t || is_entered m (device_row own d)) (row_no_entry own id d)

one_here : (id own : List ℕ) (n : ℕ) (c m : Config)
    → is_entered (enter_one id n c m) (device_row own n) ≡ (is_entered m (device_row own n) || (is_same_text own id && not (len c == 0)))
one_here id own n c m = on (len c == 0)
  where
    on : (t : Bool) → is_entered (cond t m (put_item m (device_row id n) Entry)) (device_row own n) ≡ (is_entered m (device_row own n) || (is_same_text own id && not t))
    on true = sym (ap (λ t. is_entered m (device_row own n) || t) (and-false (is_same_text own id)) ∙ or-false (is_entered m (device_row own n)))
    on false =
        row_put m id n (device_row own n)
        ∙ ap (λ t. eq_by_cmp path_cmp (device_row own n) (device_row id n) || (t || is_entered m (device_row own n))) (row_no_entry own id n)
        ∙ ap (λ t. t || is_entered m (device_row own n)) (row_here own id n)
        ∙ or_comm (is_same_text own id) (is_entered m (device_row own n))
        ∙ ap (λ t. is_entered m (device_row own n) || t) (sym (and-true (is_same_text own id)))

abbrev is_used : List Config → ℕ → Bool
is_used parts d = not (len (config_of parts d) == 0)

parts_entry : (id own : List ℕ) (n : ℕ) (parts : List Config) (m : Config) → is_entered m (service_entry id) ≡ true
    → is_entered (enter_parts id n parts m) (service_entry own) ≡ is_entered m (service_entry own)
parts_entry id own n [] m there = refl
parts_entry id own n (c ∷ parts) m there =
    parts_entry id own (n + 1) parts (enter_one id n c m) (one_entry id id n c m there ∙ there) ∙ one_entry id own n c m there

parts_below : (id own : List ℕ) (n d : ℕ) (parts : List Config) (m : Config) → n + length parts ≤ 2 ^ 32 → d < n
    → is_entered (enter_parts id n parts m) (device_row own d) ≡ is_entered m (device_row own d)
parts_below id own n d [] m room less = refl
parts_below id own n d (c ∷ parts) m room less =
    parts_below id own (n + 1) d parts (enter_one id n c m) (omega (arith, room)) (omega (arith, less))
    ∙ one_other id own n d c m (omega (arith, room, less)) (omega (arith, room)) (λ e. omega (arith, e, less))

parts_rows : (id own : List ℕ) (n d at : ℕ) (parts : List Config) (m : Config) → n + length parts ≤ 2 ^ 32 → at < 2 ^ 32 → at ≡ n + d
    → is_entered (enter_parts id n parts m) (device_row own at) ≡ (is_entered m (device_row own at) || (is_same_text own id && is_used parts d))
parts_rows id own n d at [] m room small is =
    sym (ap (λ n. is_entered m (device_row own at) || (is_same_text own id && not (n == 0))) (len-empty path_cmp Item)
    ∙ ap (λ t. is_entered m (device_row own at) || t) (and-false (is_same_text own id)) ∙ or-false (is_entered m (device_row own at)))
parts_rows id own n zero at (c ∷ parts) m room small is =
    let here : at ≡ n = omega (arith, is) in
    parts_below id own (n + 1) at parts (enter_one id n c m) (omega (arith, room)) (omega (arith, here))
    ∙ subst (λ k. is_entered (enter_one id k c m) (device_row own at) ≡ (is_entered m (device_row own at) || (is_same_text own id && not (len c == 0)))) here (one_here id own at c m)
parts_rows id own n (suc d) at (c ∷ parts) m room small is =
    parts_rows id own (n + 1) d at parts (enter_one id n c m) (omega (arith, room)) small (omega (arith, is))
    ∙ ap (λ t. t || (is_same_text own id && is_used parts d)) (one_other id own n at c m small (omega (arith, room)) (λ e. omega (arith, e, is)))

any_more : (p : Service → Bool) (xs : List Service) (x : Service) → list_any p (xs ++ x ∷ []) ≡ (list_any p xs || p x)
any_more p [] x = or-false (p x)
any_more p (y ∷ xs) x = ap (λ t. p y || t) (any_more p xs x) ∙ on (p y)
  where
    on : (t : Bool) → (t || (list_any p xs || p x)) ≡ ((t || list_any p xs) || p x)
    on true = refl
    on false = refl

entered_entry : (known : Config) (s : Service) (own : List ℕ)
    → is_entered (enter_living known s) (service_entry own) ≡ (is_entered known (service_entry own) || has_id own s)
entered_entry known s own =
    parts_entry s.id own 0 s.parts (put_item known (service_entry s.id) Entry)
    (entry_put known s.id (service_entry s.id) ∙ ap (λ t. t || is_entered known (service_entry s.id)) (same_entry s.id s.id ∙ is_text_itself s.id))
    ∙ entry_put known s.id (service_entry own) ∙ ap (λ t. t || is_entered known (service_entry own)) (same_entry own s.id ∙ text_swap own s.id)
    ∙ or_comm (has_id own s) (is_entered known (service_entry own))

entered_rows : (known : Config) (s : Service) (own : List ℕ) (d : ℕ) → length s.parts < 2 ^ 32 → d < 2 ^ 32
    → is_entered (enter_living known s) (device_row own d) ≡ (is_entered known (device_row own d) || is_held_by own d s)
entered_rows known s own d few small =
    parts_rows s.id own 0 d d s.parts (put_item known (service_entry s.id) Entry) (omega (arith, few)) small (omega arith)
    ∙ ap (λ t. t || (is_same_text own s.id && is_used s.parts d))
    (entry_put known s.id (device_row own d) ∙ ap (λ t. t || is_entered known (device_row own d)) (row_no_entry own s.id d))
    ∙ ap (λ t. is_entered known (device_row own d) || (t && is_used s.parts d)) (text_swap own s.id)

knows_more : (live : List Service) (known : Config) (s : Service) → length s.parts < 2 ^ 32 → KnowsLiving live known
    → KnowsLiving (live ++ s ∷ []) (enter_living known s)
knows_more live known s few k = record {
  services = λ own.
      entered_entry known s own ∙ ap (λ t. t || has_id own s) (k.services own) ∙ sym (any_more (has_id own) live s);
  devices = λ own d small.
      entered_rows known s own d few small ∙ ap (λ t. t || is_held_by own d s) (k.devices own d small)
      ∙ sym (any_more (is_held_by own d) live s);
}

-- leaving

removed : (id own : List ℕ) (rest : List PathStep) → is_removed_with (service_entry id) (service_step own ∷ rest) ≡ is_same_text own id
removed id own rest = and-true (is_same_text id own && true) ∙ and-true (is_same_text id own) ∙ text_swap id own

leaves : (t : Bool) (o : Option Item) → is_some (cond t None o) ≡ cond t false (is_some o)
leaves true o = refl
leaves false o = refl

left_present : (known : Config) (id own : List ℕ) (rest : List PathStep)
    → is_entered (leave_living known id) (service_step own ∷ rest) ≡ cond (is_same_text own id) false (is_entered known (service_step own ∷ rest))
left_present known id own rest =
    ap is_some (get-drop_item known (service_entry id) (service_step own ∷ rest))
    ∙ leaves (is_removed_with (service_entry id) (service_step own ∷ rest)) (get known (service_step own ∷ rest))
    ∙ ap (λ t. cond t false (is_entered known (service_step own ∷ rest))) (removed id own rest)

-- of those left none has the name, and else they are as before
left_any : (q : Service → Bool) (own id : List ℕ) (live : List Service)
    → list_any (λ s. has_id own s && q s) (others live id) ≡ cond (is_same_text own id) false (list_any (λ s. has_id own s && q s) live)
left_any q own id [] = on (is_same_text own id)
  where
    on : (t : Bool) → false ≡ cond t false false
    on true = refl
    on false = refl
left_any q own id (x ∷ xs) = on (left_any q own id xs) (has_id id x) (is_same_text own id) refl refl
  where
    on : list_any (λ s. has_id own s && q s) (others xs id) ≡ cond (is_same_text own id) false (list_any (λ s. has_id own s && q s) xs)
        → (t u : Bool) → has_id id x ≡ t → is_same_text own id ≡ u
        → list_any (λ s. has_id own s && q s) (cond (not t) (x ∷ others xs id) (others xs id))
        ≡ cond u false ((has_id own x && q x) || list_any (λ s. has_id own s && q s) xs)
    on h true true is named = h ∙ ap (λ t. cond t false (list_any (λ s. has_id own s && q s) xs)) named
    on h true false is named =
        let another : has_id own x ≡ false = ap (λ (name : List ℕ). is_same_text name own) ((bytes_decides x.id id).0 is) ∙ text_swap id own ∙ named in
        h ∙ ap (λ t. cond t false (list_any (λ s. has_id own s && q s) xs)) named
        ∙ sym (ap (λ t. (t && q x) || list_any (λ s. has_id own s && q s) xs) another)
    on h false true is named =
        let another : has_id own x ≡ false = ap (λ (name : List ℕ). is_same_text x.id name) ((bytes_decides own id).0 named) ∙ is in
        ap (λ t. (t && q x) || list_any (λ s. has_id own s && q s) (others xs id)) another
        ∙ h ∙ ap (λ t. cond t false (list_any (λ s. has_id own s && q s) xs)) named
    on h false false is named = ap (λ t. (has_id own x && q x) || t) (h ∙ ap (λ t. cond t false (list_any (λ s. has_id own s && q s) xs)) named)

any_so : (own : List ℕ) (live : List Service) → list_any (λ s. has_id own s && true) live ≡ lives live own
any_so own [] = refl
any_so own (x ∷ xs) = ap (λ t. t || list_any (λ (s : Service). has_id own s && true) xs) (and-true (has_id own x)) ∙ ap (λ t. has_id own x || t) (any_so own xs)

knows_less : (live : List Service) (known : Config) (id : List ℕ) → KnowsLiving live known → KnowsLiving (others live id) (leave_living known id)
knows_less live known id k = record {
  services = λ own.
      left_present known id own [] ∙ ap (λ t. cond (is_same_text own id) false t) (k.services own ∙ sym (any_so own live))
      ∙ sym (left_any (λ s. true) own id live) ∙ any_so own (others live id);
  devices = λ own d small.
      left_present known id own (device_step d ∷ []) ∙ ap (λ t. cond (is_same_text own id) false t) (k.devices own d small)
      ∙ sym (left_any (λ s. not (len (part s d) == 0)) own id live);
}

-- all of them

pub knows_nothing : (live : List Service) (known : Config) → live ≡ [] → known ≡ empty → KnowsLiving live known
knows_nothing live known none bare =
    subst (λ (l : List Service). KnowsLiving l known) (sym none) (subst (KnowsLiving []) (sym bare)
    (record { services = λ own. ap is_some (get-empty path_cmp (service_entry own)); devices = λ own d small. ap is_some (get-empty path_cmp (device_row own d)) }))

knows_left : (live : List Service) (known : Config) (ids : List (List ℕ)) → KnowsLiving live known → KnowsLiving (left_by live ids) (fold leave_living known ids)
knows_left live known [] k = k
knows_left live known (id ∷ ids) k = knows_left (others live id) (leave_living known id) ids (knows_less live known id k)

knows_all : (live : List Service) (known : Config) (services : List Service) → All (λ service. length service.parts < 2 ^ 32) services
    → KnowsLiving live known → KnowsLiving (live ++ services) (fold enter_living known services)
knows_all live known [] few k = subst (λ (l : List Service). KnowsLiving l known) (sym (append_none live)) k
  where
    append_none : (xs : List Service) → xs ++ [] ≡ xs
    append_none [] = refl
    append_none (x ∷ xs) = ap (λ l. x ∷ l) (append_none xs)
knows_all live known (s ∷ services) few k =
    subst (λ (l : List Service). KnowsLiving l (fold enter_living (enter_living known s) services)) (append_assoc live (s ∷ []) services)
    (knows_all (live ++ s ∷ []) (enter_living known s) services (All-tail (λ (x : Service). length x.parts < 2 ^ 32) s services few)
    (knows_more live known s (All-head (λ (x : Service). length x.parts < 2 ^ 32) s services few) k))

pub knows_behind : (live less : List Service) (known tree : Config) (ids : List (List ℕ)) (services : List Service)
    → All (λ service. length service.parts < 2 ^ 32) services → KnowsLiving live known
    → less ≡ left_by live ids ++ services → tree ≡ fold enter_living (fold leave_living known ids) services → KnowsLiving less tree
knows_behind live less known tree ids services few k whole is =
    subst (λ (l : List Service). KnowsLiving l tree) (sym whole) (subst (KnowsLiving (left_by live ids ++ services)) (sym is)
    (knows_all (left_by live ids) (fold leave_living known ids) services few (knows_left live known ids k)))
