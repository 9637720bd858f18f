-- Services that live together agree.
use Rattle.std.proofs.Common.{◌≡◌, ℕ, zero, suc, ◌+◌, ◌<◌, ◌≤◌, Bool, true, false, cond, not, ◌||◌, List, [], ◌∷◌, ◌++◌, ◌⊎◌, inl, inr, map, length, All, None, Some, refl, sym, ap, subst, ◌∙◌, arith}
use Rattle.std.specs.declared.option.Option.{Option}
use Rattle.std.specs.Ordering.{is_lt}
use Rattle.std.specs.Option.{option_or}
use Rattle.std.specs.List.{filter, flat_map, fold, list_any, Contains}
use Rattle.std.specs.Cmp.Lexicographic.{bytes_decides}
use Rattle.std.specs.FinMap.{get, empty, entries, get-entries, get-empty}
use Rattle.std.proofs.lemmas.Bool.{cases_lt}
use Rattle.std.proofs.lemmas.List.Elements.{All-contains, All-nil, All-cons, Contains-append_left, Contains-append_right}
use Rattle.orc_path.specs.Steps.{PathStep}
use Rattle.orc_path.specs.Order.{path_cmp}
use Rattle.orc_path.specs.Configurations.{Config}
use Rattle.orc_path.specs.declared.item.Item.{Item}
use Rattle.orc_datastore.specs.States.{config_of, has_id, opening, others, part, Datastore}
use Rattle.orc_datastore.specs.Actions.{is_named_by, live_after, names, touched}
use Rattle.orc_datastore.specs.Clashes.{clash_at, clash_from, differs, lesser_unequal, unequal_of, unequal_on}
use Rattle.orc_datastore.specs.Next.{after, clash, existence, invalid, refusal, expanded_call, expanded_to, unexpanded}
use Rattle.orc_datastore.specs.Histories.{fold_from, IsUnrefused}
use Rattle.orc_plans.specs.Clashing.{Agree, AllAgree, ServicesAgree}
use Rattle.orc_call.specs.declared.answer.Answer.TheVariants.{Clash}
use Rattle.orc_call.specs.declared.call.Call.{Call}
use Rattle.orc_call.specs.declared.call.Action.{Action}
use Rattle.orc_decls.specs.declared.declarations.Decls.{Decls}
use Rattle.orc_datastore.specs.declared.service.Service.{Service}
use Rattle.orc_datastore.proofs.Agreement.{same_items, some, or_none, map_none, no_unequal_among, none_in_nil, first_in, later_in, in_cases, in_filter, IsMade, Origin, origin, AreUnique, after_unique}

-- a search for the lesser that finds none found none anywhere
lesser_none : (a b : Option (List PathStep × List ℕ)) → lesser_unequal a b ≡ None → (a ≡ None) × (b ≡ None)
lesser_none None b h = (refl, h)
lesser_none (Some one) None h = cc
lesser_none (Some one) (Some other) h = on (is_lt (path_cmp other.0 one.0)) h
  where
    on : (t : Bool) → cond t (Some other) (Some one) ≡ None → (Some one ≡ None) × (Some other ≡ None)
    on true e = cc
    on false e = cc

fold_none : (g : Service → Option (List PathStep × List ℕ)) (found : Option (List PathStep × List ℕ)) (services : List Service)
    → fold (λ a service. lesser_unequal a (g service)) found services ≡ None → (found ≡ None) × All (λ service. g service ≡ None) services
fold_none g found [] h = (h, All-nil (λ service. g service ≡ None))
fold_none g found (s ∷ services) h =
    let rest = fold_none g (lesser_unequal found (g s)) services h in
    let both = lesser_none found (g s) rest.0 in
    (both.0, All-cons (λ service. g service ≡ None) s services both.1 rest.1)

pub none_on : (live services : List Service) (d : ℕ) → unequal_on live services d ≡ None → All (λ service. unequal_of live d service ≡ None) services
none_on live services d h = (fold_none (unequal_of live d) None services h).1

-- where there is no clash, nothing is unequal on any of the devices
pub no_clash_from : (live services : List Service) (k : ℕ) (names : List (List ℕ)) → clash_from live services k names ≡ None
    → (d : ℕ) → d < length names → unequal_on live services (k + d) ≡ None
no_clash_from live services k [] h d within = absurd (omega (arith, within))
no_clash_from live services k (name ∷ names) h d within =
    on (no_clash_from live services (suc k) names) d within
    (or_none (clash_at live services k) (clash_from live services (suc k) names) h)
  where
    on : (clash_from live services (suc k) names ≡ None → (e : ℕ) → e < length names → unequal_on live services (suc k + e) ≡ None)
        → (e : ℕ) → e < suc (length names) → (clash_at live services k ≡ None) × (clash_from live services (suc k) names ≡ None)
        → unequal_on live services (k + e) ≡ None
    on later zero lt both =
        subst (λ (n : ℕ). unequal_on live services n ≡ None) (omega arith)
        (map_none (λ at. Clash k at.0 at.1) (unequal_on live services k) both.0)
    on later (suc e) lt both =
        subst (λ (n : ℕ). unequal_on live services n ≡ None) (omega arith) (later both.1 e (omega (arith, lt)))

pub in_flat_map : {X Y : Type 0} (f : X → List Y) (xs : List X) (x : X) (y : Y) → Contains xs x → Contains (f x) y → Contains (flat_map f xs) y
in_flat_map f [] x y c d = absurd (none_in_nil x c)
in_flat_map f (z ∷ zs) x y c d = on (in_flat_map f zs x y) (in_cases z x zs c)
  where
    on : (Contains zs x → Contains (f x) y → Contains (flat_map f zs) y) → (z ≡ x) ⊎ Contains zs x → Contains (f z ++ flat_map f zs) y
    on rest (inl one) = Contains-append_left (f z) (flat_map f zs) y (subst (λ w. Contains (f w) y) (sym one) d)
    on rest (inr later) = Contains-append_right (f z) (flat_map f zs) y (rest later d)

-- what is named and lives is touched
any_some : {X : Type 0} (p : X → Bool) (xs : List X) → list_any p xs ≡ true → (x : X) × Contains xs x × (p x ≡ true)
any_some p [] h = cc
any_some p (x ∷ xs) h = on (any_some p xs) (p x) refl h
  where
    on : (list_any p xs ≡ true → (y : _) × Contains xs y × (p y ≡ true)) → (t : Bool) → p x ≡ t → (t || list_any p xs) ≡ true
        → (y : _) × Contains (x ∷ xs) y × (p y ≡ true)
    on rest true is e = (x, first_in x xs, is)
    on rest false is e = let found = rest e in (found.0, later_in x found.0 xs found.1, found.2)

pub named_touched : (actions : List Action) (live : List Service) (s : Service) → Contains live s → is_named_by actions s.id ≡ true
    → Contains (touched actions live) s
named_touched actions live s c h =
    let naming = any_some (λ (action : Action). names action s.id) actions h in
    in_flat_map (λ (action : Action). filter (λ (x : Service). names action x.id) live) actions naming.0 s naming.1
    (in_filter (λ (x : Service). names naming.0 x.id) live s c naming.2)

-- where there is no clash, what is touched agrees with all that lives

Agree-sym : (a b : Service) → Agree a b → Agree b a
Agree-sym a b h d p x y f g = sym (h d p y x g f)

Agree-refl : (a : Service) → Agree a a
Agree-refl a d p x y f g = some (sym f ∙ g)

-- past the last of the devices an expansion has nothing
pub config_past : (names : List (List ℕ)) (f : List ℕ → Config) (d : ℕ) → length names ≤ d → config_of (map f names) d ≡ empty
config_past [] f d le = refl
config_past (name ∷ names) f zero le = absurd (omega (arith, le))
config_past (name ∷ names) f (suc d) le = config_past names f d (omega (arith, le))

-- what is made writes on the devices alone
pub made_within : (devices : List (List ℕ)) (s : Service) → IsMade devices s → (d : ℕ) (p : List PathStep) (x : Item)
    → get (part s d) p ≡ Some x → d < length devices
made_within devices s made d p x h =
    elim (cases_lt d (length devices)) [
      | inl lt ↦ lt
      | inr le ↦
          let past : part s d ≡ empty = ap (λ (parts : List Config). config_of parts d) made.1 ∙ config_past devices _ d le in
          let none : None ≡ Some x = sym (get-empty path_cmp p) ∙ sym (ap (λ (m : Config). get m p) past) ∙ h in cc
    ]

touched_agrees : (devices : List (List ℕ)) (live services : List Service) (a b : Service) → clash_from live services 0 devices ≡ None
    → Contains services a → IsMade devices a → Contains live b → has_id a.id b ≡ false → Agree a b
touched_agrees devices live services a b h t made c another d p x y f g =
    let within = made_within devices a made d p x f in
    let none : unequal_on live services d ≡ None =
    subst (λ (n : ℕ). unequal_on live services n ≡ None) (omega arith) (no_clash_from live services 0 devices h d within) in
    let mine : unequal_of live d a ≡ None = All-contains (λ (s : Service). unequal_of live d s ≡ None) services a (none_on live services d none) t in
    let beside : Contains (others live a.id) b = in_filter (λ (s : Service). not (has_id a.id s)) live b c (ap not another) in
    same_items x y
    (subst (λ (o : Option Item). differs x o ≡ false) g
    (no_unequal_among (others live a.id) d (entries (part a d)) p x b mine (sym (get-entries (part a d) p) ∙ f) beside))

-- services that agree, after actions without a clash
after_agree : (devices : List (List ℕ)) (actions : List Action) (live : List Service) → clash devices live actions ≡ None
    → AreUnique live → AllAgree live → AllAgree (live_after devices actions live)
after_agree devices actions live h unique all a b c e = on (origin devices actions live a c) (origin devices actions live b e)
  where
    behind : List Service
    behind = live_after devices actions live

    with_touched : (x y : Service) → Contains behind x → (is_named_by actions x.id ≡ true) × IsMade devices x → Contains behind y → Agree x y
    with_touched x y cx new cy = by (has_id x.id y) refl
      where
        by : (t : Bool) → has_id x.id y ≡ t → Agree x y
        by false is = touched_agrees devices behind (touched actions behind) x y h (named_touched actions behind x cx new.0) new.1 cy is
        by true is = subst (Agree x) (after_unique devices actions live unique x y cx cy (sym ((bytes_decides y.id x.id).0 is))) (Agree-refl x)

    on : Origin devices actions live a → Origin devices actions live b → Agree a b
    on (inl old) (inl other) = all a b old.0 other.0
    on (inr new) other = with_touched a b c new e
    on (inl old) (inr new) = Agree-sym b a (with_touched b a e new c)

-- refusals

pub unrefused_parts : (decls : Decls) (s : Datastore) (call : Call) → refusal decls s call ≡ None
    → (existence s.live call.actions ≡ None) × (clash decls.names s.live (expanded_to (expanded_call decls s call)) ≡ None)
unrefused_parts decls s call h =
    let acts = expanded_call decls s call in
    let first = or_none (existence s.live call.actions) _ h in
    let second = or_none (invalid decls.data_schema _) (option_or (unexpanded acts) (clash decls.names s.live (expanded_to acts))) first.1 in
    (first.0, (or_none (unexpanded acts) (clash decls.names s.live (expanded_to acts)) second.1).1)

fold_agree : (decls : Decls) (s : Datastore) (calls : List Call) → IsUnrefused decls s calls → AreUnique s.live → AllAgree s.live
    → AllAgree (fold_from decls s calls).live
fold_agree decls s [] h unique all = all
fold_agree decls s (call ∷ calls) h unique all =
    let acts = expanded_to (expanded_call decls s call) in
    fold_agree decls (after decls s call) calls h.1 (after_unique decls.names acts s.live unique)
    (after_agree decls.names acts s.live (unrefused_parts decls s call h.0).1 unique all)

pub living_agree : ServicesAgree
living_agree decls history h =
    fold_agree decls (opening decls) history h (λ a b c e same. absurd (none_in_nil a c)) (λ a b c e. absurd (none_in_nil a c))
