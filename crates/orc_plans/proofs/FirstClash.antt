-- The clash that is found is the least one.
use Rattle.std.proofs.Common.{◌≡◌, ℕ, zero, suc, ◌+◌, ◌<◌, ◌≤◌, Bool, true, false, cond, List, [], ◌∷◌, ◌⊎◌, inl, inr, None, Some, MatchOption, slice_get, refl, sym, ap, subst, ◌∙◌, arith}
use Rattle.std.specs.declared.option.Option.{Option}
use Rattle.std.specs.declared.cmp.Ordering.{Ordering}
use Rattle.std.specs.declared.cmp.Ordering.TheVariants.{Less, Equal, Greater}
use Rattle.std.specs.Prelude.{option_map}
use Rattle.std.specs.Ordering.{is_lt, ordering_reverse}
use Rattle.std.specs.Option.{option_or}
use Rattle.std.specs.List.{filter, flat_map, fold, Contains}
use Rattle.std.proofs.lemmas.Bool.{cases_lt}
use Rattle.std.proofs.lemmas.List.Elements.{All-contains, Contains-append_cases}
use Rattle.orc_path.specs.Steps.{PathStep}
use Rattle.orc_path.specs.Order.{path_cmp}
use Rattle.orc_path.proofs.PathOrder.{path_cmp_exact, path_cmp_total}
use Rattle.orc_datastore.specs.Actions.{is_named_by, live_after, names, touched}
use Rattle.orc_datastore.specs.Clashes.{clash_from, lesser_unequal, unequal_of, unequal_on, IsClash}
use Rattle.orc_datastore.specs.Next.{clash}
use Rattle.orc_plans.specs.Clashing.{ClashIsLeast, IsLeastClash}
use Rattle.orc_call.specs.declared.answer.Answer.{Answer}
use Rattle.orc_call.specs.declared.answer.Answer.TheVariants.{Clash}
use Rattle.orc_call.specs.declared.call.Action.{Action}
use Rattle.orc_datastore.specs.declared.service.Service.{Service}
use Rattle.orc_decls.proofs.Lists.{filter_from, passes, true_not_false}
use Rattle.orc_datastore.proofs.Agreement.{none_in_nil, first_in, later_in, in_cases, origin, IsMade}
use Rattle.orc_plans.proofs.Agreeing.{no_clash_from, none_on, made_within}
use Rattle.orc_datastore.proofs.LeastClash.{less_not_greater, some_is, none_some, at_place, At, none_of, clash_has, least_at, any_of}

-- among services

-- the order of paths
less_not_itself : (p : List PathStep) → path_cmp p p ≡ Less → ⊥
less_not_itself p h = less_not_greater (sym h ∙ path_cmp_total.antisymm p p ∙ ap ordering_reverse h)

is_less : (o : Ordering) → is_lt o ≡ true → o ≡ Less
is_less Less h = refl
is_less Equal h = cc
is_less Greater h = cc

is_not_less : (o : Ordering) → is_lt o ≡ false → o ≡ Less → ⊥
is_not_less Less h e = cc
is_not_less Equal h e = cc
is_not_less Greater h e = cc

-- none of the services has something at a lesser path
abbrev NoneLess : (Service → Option At) → List Service → List PathStep → Type 0
NoneLess g services path = (s : Service) (at : At) → Contains services s → g s ≡ Some at → path_cmp at.0 path ≡ Less → ⊥

-- the first of the services that have something at the least path
record Best (g : Service → Option At) (services : List Service) (at : At) : Type 0 where
  place : ℕ
  service : Service
  there : slice_get services place ≡ Some service
  has : g service ≡ Some at
  least : NoneLess g services at.0
  first : (k : ℕ) (s : Service) (other : At) → slice_get services k ≡ Some s → g s ≡ Some other → other.0 ≡ at.0 → place ≤ k

-- what was there before is still the least, or one of the services has something at a lesser path
abbrev Comes : (Service → Option At) → Option At → List Service → At → Type 0
Comes g found services at =
    ((found ≡ Some at) × NoneLess g services at.0)
    ⊎ (Best g services at × ((f : At) → found ≡ Some f → path_cmp at.0 f.0 ≡ Less))

-- one more at the beginning, that has nothing at a lesser path
none_less_more : (g : Service → Option At) (s : Service) (services : List Service) (path : List PathStep)
    → ((o : At) → g s ≡ Some o → path_cmp o.0 path ≡ Less → ⊥) → NoneLess g services path → NoneLess g (s ∷ services) path
none_less_more g s services path here rest x at c is lt = on (in_cases s x services c)
  where
    on : (s ≡ x) ⊎ Contains services x → ⊥
    on (inl one) = here at (ap g one ∙ is) lt
    on (inr later) = rest x at later is lt

-- it is the first
best_here : (g : Service → Option At) (s : Service) (services : List Service) (at : At) → g s ≡ Some at → NoneLess g services at.0 → Best g (s ∷ services) at
best_here g s services at is rest = record {
  place = 0;
  service = s;
  there = refl;
  has = is;
  least = none_less_more g s services at.0 (λ o e lt. less_not_itself at.0 (subst (λ (p : At). path_cmp p.0 at.0 ≡ Less) (some_is (sym e ∙ is)) lt)) rest;
  first = λ k x other t e same. omega arith;
}

-- it has something at no path up to that of the best of the rest
best_later : (g : Service → Option At) (s : Service) (services : List Service) (at : At)
    → ((o : At) → g s ≡ Some o → path_cmp at.0 o.0 ≡ Less) → Best g services at → Best g (s ∷ services) at
best_later g s services at behind best = record {
  place = suc best.place;
  service = best.service;
  there = best.there;
  has = best.has;
  least = none_less_more g s services at.0 (λ o e lt. less_not_itself at.0 (path_cmp_total.trans at.0 o.0 at.0 (behind o e) lt)) best.least;
  first = λ k x other t e same. first_later k x other t e same;
}
  where
    first_later : (k : ℕ) (x : Service) (other : At) → slice_get (s ∷ services) k ≡ Some x → g x ≡ Some other → other.0 ≡ at.0 → suc best.place ≤ k
    first_later zero x other t e same =
        let mine : g s ≡ Some other = ap g (some_is t) ∙ e in
        absurd (less_not_itself at.0 (subst (λ (p : List PathStep). path_cmp at.0 p ≡ Less) same (behind other mine)))
    first_later (suc k) x other t e same = omega (arith, best.first k x other t e same)

-- a search for the lesser
fold_best : (g : Service → Option At) (found : Option At) (services : List Service) (at : At)
    → fold (λ a s. lesser_unequal a (g s)) found services ≡ Some at → Comes g found services at
fold_best g found [] at h = inl (h, λ s o c. absurd (none_in_nil s c))
fold_best g found (s ∷ services) at h = on found (g s) refl (fold_best g (lesser_unequal found (g s)) services at h)
  where
    alone : (o : Option At) → g s ≡ o → Comes g o services at → Comes g None (s ∷ services) at
    alone o is (inl here) = inr (best_here g s services at (is ∙ here.0) here.1, λ f e. absurd (none_some e))
    alone o is (inr best) = inr (best_later g s services at (λ p e. best.1 p (sym is ∙ e)) best.0, λ f e. absurd (none_some e))

    both : (f o : At) → g s ≡ Some o → (t : Bool) → is_lt (path_cmp o.0 f.0) ≡ t → Comes g (cond t (Some o) (Some f)) services at
        → Comes g (Some f) (s ∷ services) at
    both f o is true lt (inl here) =
        let mine : o ≡ at = some_is here.0 in
        inr (
          best_here g s services at (is ∙ here.0) here.1,
          λ e same. subst (λ (p : At). path_cmp p.0 e.0 ≡ Less) mine (subst (λ (q : At). path_cmp o.0 q.0 ≡ Less) (some_is same) (is_less (path_cmp o.0 f.0) lt)),
        )
    both f o is true lt (inr best) =
        inr (
          best_later g s services at (λ p e. best.1 p (sym is ∙ e)) best.0,
          λ e same. path_cmp_total.trans at.0 o.0 e.0 (best.1 o refl) (subst (λ (q : At). path_cmp o.0 q.0 ≡ Less) (some_is same) (is_less (path_cmp o.0 f.0) lt)),
        )
    both f o is false ge (inl here) =
        let mine : f ≡ at = some_is here.0 in
        inl (
          here.0,
          none_less_more g s services at.0
              (λ p e lt. is_not_less (path_cmp o.0 f.0) ge
              (subst (λ (q : At). path_cmp q.0 f.0 ≡ Less) (some_is (sym e ∙ is)) (subst (λ (q : At). path_cmp p.0 q.0 ≡ Less) (sym mine) lt))) here.1,
        )
    both f o is false ge (inr best) =
        let front : path_cmp at.0 f.0 ≡ Less = best.1 f refl in
        let later : path_cmp at.0 o.0 ≡ Less = upto (path_cmp o.0 f.0) refl front in
        inr (
          best_later g s services at (λ p e. subst (λ (q : At). path_cmp at.0 q.0 ≡ Less) (some_is (sym is ∙ e)) later) best.0,
          λ e same. subst (λ (q : At). path_cmp at.0 q.0 ≡ Less) (some_is same) front,
        )
      where
        upto : (r : Ordering) → path_cmp o.0 f.0 ≡ r → path_cmp at.0 f.0 ≡ Less → path_cmp at.0 o.0 ≡ Less
        upto Less e lt = absurd (is_not_less (path_cmp o.0 f.0) ge e)
        upto Equal e lt = subst (λ (p : List PathStep). path_cmp at.0 p ≡ Less) (sym (path_cmp_exact o.0 f.0 e)) lt
        upto Greater e lt = path_cmp_total.trans at.0 f.0 o.0 lt (path_cmp_total.antisymm f.0 o.0 ∙ ap ordering_reverse e)

    on : (a o : Option At) → g s ≡ o → Comes g (lesser_unequal a (g s)) services at → Comes g a (s ∷ services) at
    on None o is c = alone (g s) refl c
    on (Some f) None is (inl here) =
        let before : Some f ≡ Some at = sym (ap (lesser_unequal (Some f)) is) ∙ here.0 in
        inl (before, none_less_more g s services at.0 (λ p e lt. absurd (none_some (sym is ∙ e))) here.1)
    on (Some f) None is (inr best) =
        inr (
          best_later g s services at (λ p e. absurd (none_some (sym is ∙ e))) best.0,
          λ e same. best.1 e (ap (lesser_unequal (Some f)) is ∙ same),
        )
    on (Some f) (Some o) is c =
        both f o is (is_lt (path_cmp o.0 f.0)) refl (subst (λ (z : Option At). Comes g z services at) (ap (lesser_unequal (Some f)) is) c)

best_on : (live services : List Service) (d : ℕ) (at : At) → unequal_on live services d ≡ Some at → Best (unequal_of live d) services at
best_on live services d at h = on (fold_best (unequal_of live d) None services at h)
  where
    on : Comes (unequal_of live d) None services at → Best (unequal_of live d) services at
    on (inl here) = absurd (none_some here.0)
    on (inr best) = best.0

-- on all devices

-- something is unequal on this device, and nothing on those before it
record FoundOn (live services : List Service) (k device : ℕ) (at : At) : Type 0 where
  here : unequal_on live services (k + device) ≡ Some at
  earlier : (j : ℕ) → j < device → unequal_on live services (k + j) ≡ None

found_from : (live services : List Service) (k : ℕ) (devices : List (List ℕ)) (answer : Answer) → clash_from live services k devices ≡ Some answer
    → (device : ℕ) × (at : At) × (answer ≡ Clash (k + device) at.0 at.1) × FoundOn live services k device at
found_from live services k [] answer h = absurd (none_some h)
found_from live services k (name ∷ devices) answer h =
    on (λ later. found_from live services (suc k) devices answer later) (unequal_on live services k) refl
  where
    chosen : (o : Option At) → unequal_on live services k ≡ o
        → option_or (option_map (λ at. Clash k at.0 at.1) o) (clash_from live services (suc k) devices) ≡ Some answer
    chosen o is = sym (ap (λ z. option_or (option_map (λ at. Clash k at.0 at.1) z) (clash_from live services (suc k) devices)) is) ∙ h

    none_before : (device : ℕ) → unequal_on live services k ≡ None → ((j : ℕ) → j < device → unequal_on live services (suc k + j) ≡ None)
        → (j : ℕ) → j < suc device → unequal_on live services (k + j) ≡ None
    none_before device is earlier zero lt = subst (λ n. unequal_on live services n ≡ None) (omega arith) is
    none_before device is earlier (suc j) lt = subst (λ n. unequal_on live services n ≡ None) (omega arith) (earlier j (omega (arith, lt)))

    on : (clash_from live services (suc k) devices ≡ Some answer
        → (device : ℕ) × (at : At) × (answer ≡ Clash (suc k + device) at.0 at.1) × FoundOn live services (suc k) device at)
        → (o : Option At) → unequal_on live services k ≡ o
        → (device : ℕ) × (at : At) × (answer ≡ Clash (k + device) at.0 at.1) × FoundOn live services k device at
    on later (Some at) is =
        let zero_more : k ≡ k + 0 = omega arith in (
          0,
          at,
          sym (some_is (chosen (Some at) is)) ∙ ap (λ n. Clash n at.0 at.1) zero_more,
          record {
            here = subst (λ n. unequal_on live services n ≡ Some at) zero_more is;
            earlier = λ j lt. absurd (omega (arith, lt));
          },
        )
    on later None is =
        let rest = later (chosen None is) in
        let one_more : suc k + rest.0 ≡ k + suc rest.0 = omega arith in (
          suc rest.0,
          rest.1,
          rest.2 ∙ ap (λ n. Clash n rest.1.0 rest.1.1) one_more,
          record {
            here = subst (λ n. unequal_on live services n ≡ Some rest.1) one_more rest.3.here;
            earlier = none_before rest.0 is rest.3.earlier;
          },
        )

found_least : (live services : List Service) (device : ℕ) (at : At) → Best (unequal_of live device) services at
    → ((j : ℕ) → j < device → unequal_on live services j ≡ None) → IsLeastClash services live device at.0 at.1
found_least live services device at best earlier =
    let least = least_at live device best.service at best.has in
    record {
      place = best.place;
      service = best.service;
      there = best.there;
      rival = least.rival;
      named = least.named;
      clash = least.clash;
      least_device = λ device' path' s' r' c clash. no_earlier device' path' s' r' c clash;
      least_path = λ path' s' r' c clash lt. no_lesser path' s' r' c clash lt;
      first = λ k s' r' t clash. no_sooner k s' r' t clash;
      least_name = least.least_name;
    }
  where
    no_earlier : (device' : ℕ) (path' : List PathStep) (s' r' : Service) → Contains services s' → IsClash live device' path' s' r' → device ≤ device'
    no_earlier device' path' s' r' c clash =
        elim (cases_lt device' device) [
          | inl lt ↦ absurd (none_of live device' path' s' r'
              (All-contains (λ (x : Service). unequal_of live device' x ≡ None) services s' (none_on live services device' (earlier device' lt)) c) clash)
          | inr le ↦ le
        ]

    no_lesser : (path' : List PathStep) (s' r' : Service) → Contains services s' → IsClash live device path' s' r' → path_cmp path' at.0 ≡ Less → ⊥
    no_lesser path' s' r' c clash lt =
        let has = clash_has live device path' s' r' clash in
        on has.0 has.1 has.2 (path_cmp has.0.0 path') refl
      where
        on : (o : At) → unequal_of live device s' ≡ Some o → (path_cmp path' o.0 ≡ Less → ⊥) → (r : Ordering) → path_cmp o.0 path' ≡ r → ⊥
        on o is upto Less e = best.least s' o c is (path_cmp_total.trans o.0 path' at.0 e lt)
        on o is upto Equal e = best.least s' o c is (subst (λ (p : List PathStep). path_cmp p at.0 ≡ Less) (sym (path_cmp_exact o.0 path' e)) lt)
        on o is upto Greater e = upto (path_cmp_total.antisymm path' o.0 ∙ ap ordering_reverse e)

    no_sooner : (k : ℕ) (s' r' : Service) → slice_get services k ≡ Some s' → IsClash live device at.0 s' r' → best.place ≤ k
    no_sooner k s' r' t clash =
        let has = clash_has live device at.0 s' r' clash in
        on has.0 has.1 has.2 (path_cmp has.0.0 at.0) refl
      where
        on : (o : At) → unequal_of live device s' ≡ Some o → (path_cmp at.0 o.0 ≡ Less → ⊥) → (r : Ordering) → path_cmp o.0 at.0 ≡ r → best.place ≤ k
        on o is upto Less e = absurd (best.least s' o (at_place services k s' t) is e)
        on o is upto Equal e = best.first k s' o t is (path_cmp_exact o.0 at.0 e)
        on o is upto Greater e = absurd (upto (path_cmp_total.antisymm at.0 o.0 ∙ ap ordering_reverse e))

-- what is touched is made
pub flat_map_cases : {X Y : Type 0} (f : X → List Y) (xs : List X) (y : Y) → Contains (flat_map f xs) y → (x : X) × Contains xs x × Contains (f x) y
flat_map_cases f [] y c = absurd (none_in_nil y c)
flat_map_cases f (x ∷ xs) y c = on (λ later. flat_map_cases f xs y later) (Contains-append_cases (f x) (flat_map f xs) y c)
  where
    on : (Contains (flat_map f xs) y → (z : _) × Contains xs z × Contains (f z) y) → Contains (f x) y ⊎ Contains (flat_map f xs) y
        → (z : _) × Contains (x ∷ xs) z × Contains (f z) y
    on rest (inl here) = (x, first_in x xs, here)
    on rest (inr later) = let found = rest later in (found.0, later_in x found.0 xs found.1, found.2)

touched_made : (devices : List (List ℕ)) (actions : List Action) (before : List Service) (s : Service)
    → Contains (touched actions (live_after devices actions before)) s → IsMade devices s
touched_made devices actions before s c =
    let behind = live_after devices actions before in
    let by = flat_map_cases (λ (action : Action). filter (λ (x : Service). names action x.id) behind) actions s c in
    let living : Contains behind s = filter_from (λ (x : Service). names by.0 x.id) behind s by.2 in
    let named : is_named_by actions s.id ≡ true = any_of (λ (action : Action). names action s.id) actions by.0 by.1 (passes (λ (x : Service). names by.0 x.id) behind s by.2) in
    elim (origin devices actions before s living) [
      | inl old ↦ absurd (true_not_false (sym named ∙ old.1))
      | inr made ↦ made.1
    ]

pub clash_least : ClashIsLeast
clash_least devices before actions = on (clash devices before actions) refl
  where
    live : List Service
    live = live_after devices actions before

    services : List Service
    services = touched actions live

    on : (o : Option Answer) → clash devices before actions ≡ o
        → MatchOption o ((device : ℕ) (path : List PathStep) (service rival : Service) → Contains services service → IsClash live device path service rival → ⊥)
        (λ answer. (device : ℕ) × (path : List PathStep) × (id : List ℕ) × (answer ≡ Clash device path id) × IsLeastClash services live device path id)
    on None is = λ device path s rival c clash.
        let within = made_within devices s (touched_made devices actions before s c) device path clash.item clash.written in
        let none : unequal_on live services device ≡ None =
        subst (λ (n : ℕ). unequal_on live services n ≡ None) (omega arith) (no_clash_from live services 0 devices is device within) in
        none_of live device path s rival (All-contains (λ (x : Service). unequal_of live device x ≡ None) services s (none_on live services device none) c) clash
    on (Some answer) is =
        let found = found_from live services 0 devices answer is in
        let device = found.0 in
        let zero_less : 0 + device ≡ device = omega arith in (
          device,
          found.1.0,
          found.1.1,
          found.2 ∙ ap (λ n. Clash n found.1.0 found.1.1) zero_less,
          found_least live services device found.1
              (best_on live services device found.1 (subst (λ n. unequal_on live services n ≡ Some found.1) zero_less found.3.here))
              (λ j lt.
              let zero_less' : 0 + j ≡ j = omega arith in
              subst (λ n. unequal_on live services n ≡ None) zero_less' (found.3.earlier j lt)),
        )
