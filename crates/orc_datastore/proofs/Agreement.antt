-- What lives after actions, and what no clash says of it.
use Rattle.std.proofs.Common.{◌≡◌, ℕ, Bool, true, false, cond, not, ◌||◌, List, [], ◌∷◌, ◌⊎◌, inl, inr, map, All, None, Some, refl, sym, ap, subst, ◌∙◌, arith}
use Rattle.std.specs.declared.option.Option.{Option}
use Rattle.std.specs.declared.cmp.Ordering.{Ordering}
use Rattle.std.specs.declared.cmp.Ordering.TheVariants.{Less, Equal, Greater}
use Rattle.std.specs.Prelude.{option_map}
use Rattle.std.specs.Ordering.{is_eq}
use Rattle.std.specs.Option.{option_map_or, option_or}
use Rattle.std.specs.List.{filter, fold, Contains}
use Rattle.std.specs.Cmp.Lexicographic.{bytes_decides}
use Rattle.std.specs.FinMap.{find, get}
use Rattle.std.proofs.lemmas.List.Elements.{All-contains, All-head, All-tail, All-nil, All-cons, Contains-append_cases, Contains-append_left, Contains-append_right, Contains-push, Contains-push_cases}
use Rattle.std.proofs.lemmas.Bool.{or_right}
use Rattle.orc_path.specs.Steps.{PathStep}
use Rattle.orc_path.specs.Order.{path_cmp}
use Rattle.orc_path.proofs.PathOrder.{path_cmp_exact}
use Rattle.orc_path.specs.declared.item.Item.{Item}
use Rattle.orc_path.specs.declared.item.Item.TheVariants.{Entry, Leaf}
use Rattle.orc_datastore.specs.States.{expansion, part}
use Rattle.orc_decls.specs.Devices.{is_same_text}
use Rattle.orc_datastore.specs.Actions.{is_named_by, live_after, live_step, new_services, names}
use Rattle.orc_datastore.specs.Clashes.{differs, least, lesser_unequal, rivals, unequal_among, unequal_of, unequal_on}
use Rattle.orc_call.specs.declared.call.Action.{Action}
use Rattle.orc_call.specs.declared.call.Action.TheVariants.{Literal}
use Rattle.orc_datastore.specs.declared.service.Service.{Service}
use Rattle.orc_decls.proofs.Lists.{not_true, filter_from, filter_nil, passes, true_not_false}
use Rattle.orc_datastore.proofs.Named.{made_named}

-- items that don't differ are equal
pub same_items : (x y : Item) → differs x (Some y) ≡ false → x ≡ y
same_items Entry Entry h = refl
same_items Entry (Leaf u) h = cc
same_items (Leaf t) Entry h = cc
same_items (Leaf t) (Leaf u) h = ap Leaf ((bytes_decides t u).0 (turned (is_same_text t u) h))
  where
    turned : (b : Bool) → not b ≡ false → b ≡ true
    turned true e = refl
    turned false e = cc

pub least_none : (ids : List (List ℕ)) → least ids ≡ None → ids ≡ []
least_none [] h = refl
least_none (id ∷ ids) h = cc

pub map_nil : {A B : Type 0} (f : A → B) (xs : List A) → map f xs ≡ [] → xs ≡ []
map_nil f [] h = refl
map_nil f (x ∷ xs) h = cc

pub some : {A : Type 0} {a b : A} → Some a ≡ Some b → a ≡ b
some q = cc

-- options

pub or_none : {A : Type 0} (a b : Option A) → option_or a b ≡ None → (a ≡ None) × (b ≡ None)
or_none None b h = (refl, h)
or_none (Some x) b h = cc

pub map_none : {A B : Type 0} (f : A → B) (o : Option A) → option_map f o ≡ None → o ≡ None
map_none f None h = refl
map_none f (Some x) h = cc

-- where nothing unequal is found among items, none of them differs from what a living service writes
pub no_unequal_among : (live : List Service) (d : ℕ) (es : List (List PathStep × Item)) (p : List PathStep) (x : Item) (s : Service)
    → unequal_among live d es ≡ None → find path_cmp p es ≡ Some x → Contains live s → differs x (get (part s d) p) ≡ false
no_unequal_among live d [] p x s h f c = cc
no_unequal_among live d (e ∷ es) p x s h f c =
    by_least (λ (none : unequal_among live d es ≡ None) (later : find path_cmp p es ≡ Some x). no_unequal_among live d es p x s none later c)
    (least (map (λ (service : Service). service.id) (rivals live d e))) refl
  where
    here : rivals live d e ≡ [] → path_cmp p e.0 ≡ Equal → differs x (get (part s d) p) ≡ false
    here none is =
        let item : e.1 ≡ x = some (sym (ap (λ o. cond (is_eq o) (Some e.1) (find path_cmp p es)) is) ∙ f) in
        let place : p ≡ e.0 = path_cmp_exact p e.0 is in
        subst (λ (q : List PathStep). differs x (get (part s d) q) ≡ false) (sym place)
        (subst (λ (i : Item). differs i (get (part s d) e.0) ≡ false) item
        (All-contains (λ (z : Service). differs e.1 (get (part z d) e.0) ≡ false) live s (filter_nil (λ (z : Service). differs e.1 (get (part z d) e.0)) live none) c))

    passed : (o : Ordering) → path_cmp p e.0 ≡ o → is_eq o ≡ false → find path_cmp p es ≡ Some x
    passed o is other = sym (ap (λ t. cond t (Some e.1) (find path_cmp p es)) (ap is_eq is ∙ other)) ∙ f

    by_order : (unequal_among live d es ≡ None → find path_cmp p es ≡ Some x → differs x (get (part s d) p) ≡ false)
        → (o : Ordering) → path_cmp p e.0 ≡ o → rivals live d e ≡ [] → unequal_among live d es ≡ None → differs x (get (part s d) p) ≡ false
    by_order later Less is none rest = later rest (passed Less is refl)
    by_order later Equal is none rest = here none is
    by_order later Greater is none rest = later rest (passed Greater is refl)

    by_least : (unequal_among live d es ≡ None → find path_cmp p es ≡ Some x → differs x (get (part s d) p) ≡ false)
        → (o : Option (List ℕ)) → least (map (λ (service : Service). service.id) (rivals live d e)) ≡ o → differs x (get (part s d) p) ≡ false
    by_least later None is =
        by_order later (path_cmp p e.0) refl (map_nil _ _ (least_none _ is))
        (sym (ap (λ o. option_map_or (λ id. Some (e.0, id)) o (unequal_among live d es)) is) ∙ h)
    by_least later (Some id) is =
        let found : Some (e.0, id) ≡ None = sym (ap (λ o. option_map_or (λ id. Some (e.0, id)) o (unequal_among live d es)) is) ∙ h in cc

-- the other way round
none_fold : (g : Service → Option (List PathStep × List ℕ)) (services : List Service) → All (λ service. g service ≡ None) services
    → fold (λ a service. lesser_unequal a (g service)) None services ≡ None
none_fold g [] h = refl
none_fold g (s ∷ services) h =
    ap (λ o. fold (λ a service. lesser_unequal a (g service)) o services) (All-head (λ service. g service ≡ None) s services h)
    ∙ none_fold g services (All-tail (λ service. g service ≡ None) s services h)

pub on_none : (live services : List Service) (d : ℕ) → All (λ service. unequal_of live d service ≡ None) services → unequal_on live services d ≡ None
on_none live services d h = none_fold (unequal_of live d) services h

-- lists

pub none_in_nil : {X : Type 0} (a : X) → Contains [] a → ⊥
none_in_nil a c = omega (arith, c.1)

pub only : {X : Type 0} (s a : X) → Contains (s ∷ []) a → s ≡ a
only s a c = elim (Contains-push_cases [] s a c) [ inl none ↦ absurd (none_in_nil a none) | inr is ↦ is ]

pub first_in : {X : Type 0} (a : X) (rest : List X) → Contains (a ∷ rest) a
first_in a rest = Contains-append_left (a ∷ []) rest a (Contains-push [] a)

pub later_in : {X : Type 0} (a b : X) (rest : List X) → Contains rest b → Contains (a ∷ rest) b
later_in a b rest c = Contains-append_right (a ∷ []) rest b c

pub in_cases : {X : Type 0} (a b : X) (rest : List X) → Contains (a ∷ rest) b → (a ≡ b) ⊎ Contains rest b
in_cases a b rest c = elim (Contains-append_cases (a ∷ []) rest b c) [ inl one ↦ inl (only a b one) | inr later ↦ inr later ]

-- what passes a test is among those that do
pub in_filter : {X : Type 0} (p : X → Bool) (xs : List X) (x : X) → Contains xs x → p x ≡ true → Contains (filter p xs) x
in_filter p [] x c h = absurd (none_in_nil x c)
in_filter p (y ∷ ys) x c h = on (in_filter p ys x) (p y) refl (in_cases y x ys c)
  where
    on : (Contains ys x → p x ≡ true → Contains (filter p ys) x) → (t : Bool) → p y ≡ t → (y ≡ x) ⊎ Contains ys x
        → Contains (cond t (y ∷ filter p ys) (filter p ys)) x
    on rest true is (inl one) = subst (λ z. Contains (y ∷ filter p ys) z) one (first_in y (filter p ys))
    on rest true is (inr later) = later_in y x (filter p ys) (rest later h)
    on rest false is (inl one) = absurd (true_not_false (sym h ∙ sym (ap p one) ∙ is))
    on rest false is (inr later) = rest later h

-- what lives after actions: it lived before and none names it, or one of them makes it

-- the service is an expansion on these devices
abbrev pub IsMade : List (List ℕ) → Service → Type 0
IsMade devices service = (writes : _) × (service.parts ≡ expansion devices writes)

pub made_is_made : (devices : List (List ℕ)) (action : Action) → All (IsMade devices) (new_services devices action)
made_is_made devices (Literal id writes) = All-cons (IsMade devices) (record { id = id; parts = expansion devices writes }) [] (writes, refl) (All-nil (IsMade devices))
made_is_made devices other = All-nil (IsMade devices)

abbrev pub Origin : List (List ℕ) → List Action → List Service → Service → Type 0
Origin devices actions live s =
    (Contains live s × (is_named_by actions s.id ≡ false)) ⊎ ((is_named_by actions s.id ≡ true) × IsMade devices s)

pub origin : (devices : List (List ℕ)) (actions : List Action) (live : List Service) (s : Service)
    → Contains (live_after devices actions live) s → Origin devices actions live s
origin devices [] live s c = inl (c, refl)
origin devices (action ∷ actions) live s c = on (origin devices actions (live_step devices live action) s c)
  where
    left : Service → Bool
    left x = not (names action x.id)

    by_step : (is_named_by actions s.id ≡ false)
        → Contains (filter left live) s ⊎ Contains (new_services devices action) s → Origin devices (action ∷ actions) live s
    by_step un (inl old) =
        inl (
          filter_from left live s old,
          ap (λ t. t || is_named_by actions s.id) (not_true (names action s.id) (passes left live s old)) ∙ un,
        )
    by_step un (inr made) =
        inr (
          ap (λ t. t || is_named_by actions s.id) (All-contains (λ (x : Service). names action x.id ≡ true) (new_services devices action) s (made_named devices action) made),
          All-contains (IsMade devices) (new_services devices action) s (made_is_made devices action) made,
        )

    on : Origin devices actions (live_step devices live action) s → Origin devices (action ∷ actions) live s
    on (inl old) = by_step old.1 (Contains-append_cases (filter left live) (new_services devices action) s old.0)
    on (inr made) = inr (or_right (names action s.id) (is_named_by actions s.id) made.0, made.1)

-- no two services of one name

abbrev pub AreUnique : List Service → Type 0
AreUnique live = (a b : Service) → Contains live a → Contains live b → a.id ≡ b.id → a ≡ b

made_unique : (devices : List (List ℕ)) (action : Action) → AreUnique (new_services devices action)
made_unique devices (Literal id writes) a b c d same = sym (only _ a c) ∙ only _ b d
made_unique devices other a b c d same = absurd (none_in_nil a c)

step_unique : (devices : List (List ℕ)) (live : List Service) (action : Action) → AreUnique live → AreUnique (live_step devices live action)
step_unique devices live action h a b c d same =
    on (Contains-append_cases (filter left live) made a c) (Contains-append_cases (filter left live) made b d)
  where
    left : Service → Bool
    left x = not (names action x.id)

    made : List Service
    made = new_services devices action

    -- one that is left has no name of what is made
    apart : (x y : Service) → Contains (filter left live) x → Contains made y → x.id ≡ y.id → ⊥
    apart x y old new is =
        true_not_false (sym (All-contains (λ (z : Service). names action z.id ≡ true) made y (made_named devices action) new)
        ∙ sym (ap (names action) is) ∙ not_true (names action x.id) (passes left live x old))

    on : Contains (filter left live) a ⊎ Contains made a → Contains (filter left live) b ⊎ Contains made b → a ≡ b
    on (inl x) (inl y) = h a b (filter_from left live a x) (filter_from left live b y) same
    on (inl x) (inr y) = absurd (apart a b x y same)
    on (inr x) (inl y) = absurd (apart b a y x (sym same))
    on (inr x) (inr y) = made_unique devices action a b x y same

pub after_unique : (devices : List (List ℕ)) (actions : List Action) (live : List Service) → AreUnique live → AreUnique (live_after devices actions live)
after_unique devices [] live h = h
after_unique devices (action ∷ actions) live h = after_unique devices actions (live_step devices live action) (step_unique devices live action h)
