-- Two views that share what is read give the same.
use Rattle.std.proofs.Common.{◌≡◌, ℕ, ◌-◌, nat_eq, Bool, true, false, cond, List, [], ◌∷◌, ◌++◌, Option, Some, None, length, map, slice_get, refl, sym, ap, ap₂, subst, ◌∙◌}
use Rattle.std.specs.Option.{option_map_or, is_some}
use Rattle.std.specs.List.{All, flat_map, filter}
use Rattle.std.specs.FinMap.{get}
use Rattle.std.specs.Cmp.Lexicographic.{pointwise}
use Rattle.std.proofs.lemmas.List.Elements.{All-nil, All-cons, All-head, All-tail}
use Rattle.orc_path.specs.Steps.{PathStep}
use Rattle.orc_path.specs.Configurations.{Config}
use Rattle.orc_path.specs.Views.{Viewed, entries_of}
use Rattle.orc_path.specs.declared.shape.Shape.{Shape}
use Rattle.orc_path.specs.declared.shape.Shape.TheVariants as shape
use Rattle.orc_expr.specs.Expressions.{Expression, Here, FromRoot, FromContext, Below, Where, Quoted, Condition}
use Rattle.orc_expr.specs.Reads.{SharesRead, IsFixedByReads}
use Rattle.orc_expr.specs.Looks.{look_on, give_on, nowhere, looked, nodes_under, text_or, leaf_texts, is_present, keys_at_end, key_at, choose, chosen, selected_by, selected, alone, entries_look, asks_each_key, list_look_by, list_look, leads_by, leads, texts_by, nodes_by, front_of, context_shape, context_texts, context_nodes, texts_at, nodes_at, parent_at, parent_behind, ask, followed, texts_of, nodes_of, judged_by, judged}
use Rattle.orc_expr.specs.declared.read.Read.{Read}
use Rattle.orc_expr.specs.declared.read.Read.TheVariants as read
use Rattle.orc_expr.specs.declared.looked.Looked.{Looked}
use Rattle.orc_expr.specs.declared.step.Asked.{Asked}
use Rattle.orc_expr.specs.declared.step.LastStep.{LastStep}
use Rattle.orc_expr.specs.declared.step.Reached.{Reached}
use Rattle.orc_expr.specs.declared.step.Reached.TheVariants.{Context, Given, Last}
use Rattle.orc_expr.specs.declared.step.Choice.{Choice}
use Rattle.orc_expr.specs.declared.step.Choice.TheVariants as choice
use Rattle.orc_expr.specs.declared.step.Chosen.{Chosen}

module _ {X : Type 0} (P : X → Type 0) where
  pub All-front : (xs ys : List X) → All P (xs ++ ys) → All P xs
  All-front [] ys h = All-nil P
  All-front (x ∷ xs) ys h = All-cons P x xs (All-head P x (xs ++ ys) h) (All-front xs ys (All-tail P x (xs ++ ys) h))

  pub All-back : (xs ys : List X) → All P (xs ++ ys) → All P ys
  All-back [] ys h = h
  All-back (x ∷ xs) ys h = All-back xs ys (All-tail P x (xs ++ ys) h)

module _ (v w : Viewed) (shapes : (parent : List PathStep) (name : List ℕ) → v.shapes parent name ≡ w.shapes parent name) where
  abbrev Shared : List Read → Type 0
  Shared reads = All (SharesRead v w) reads

  -- where what the one read is shared, the other is the same
  abbrev Same : {X : Type 0} → Looked X → Looked X → Type 0
  Same first second = Shared first.reads → second ≡ first

  front : (xs ys : List Read) → Shared (xs ++ ys) → Shared xs
  front = All-front (SharesRead v w)

  back : (xs ys : List Read) → Shared (xs ++ ys) → Shared ys
  back = All-back (SharesRead v w)

  -- what nodes give whose items or entries are shared
  leaves_same : (default : Option (List ℕ)) (ns : List (List PathStep)) → Shared (map read.Item ns) → flat_map (leaf_texts w.items default) ns ≡ flat_map (leaf_texts v.items default) ns
  leaves_same default [] h = refl
  leaves_same default (n ∷ ns) h =
      let here : get v.items n ≡ get w.items n = All-head (SharesRead v w) (read.Item n) (map read.Item ns) h in
      ap₂ (λ a b. a ++ b) (ap (text_or default) (sym here)) (leaves_same default ns (All-tail (SharesRead v w) (read.Item n) (map read.Item ns) h))

  present_same : (ns : List (List PathStep)) → Shared (map read.Item ns) → filter (is_present w.items) ns ≡ filter (is_present v.items) ns
  present_same [] h = refl
  present_same (n ∷ ns) h =
      let here : get v.items n ≡ get w.items n = All-head (SharesRead v w) (read.Item n) (map read.Item ns) h in
      ap₂ (λ o rest. cond (is_some o) (n ∷ rest) rest) (sym here) (present_same ns (All-tail (SharesRead v w) (read.Item n) (map read.Item ns) h))

  entries_same : (ns : List (List PathStep)) → Shared (map read.Keys ns) → flat_map (entries_of w.items) ns ≡ flat_map (entries_of v.items) ns
  entries_same [] h = refl
  entries_same (n ∷ ns) h =
      let here : entries_of v.items n ≡ entries_of w.items n = All-head (SharesRead v w) (read.Keys n) (map read.Keys ns) h in
      ap₂ (λ a b. a ++ b) (sym here) (entries_same ns (All-tail (SharesRead v w) (read.Keys n) (map read.Keys ns) h))

  module _ {X : Type 0} where
    look_on_same : (x y : Looked (List PathStep)) → Same x y → (give other : List (List PathStep) → List X) (reads : List (List PathStep) → List Read)
        → ((places : List (List PathStep)) → Shared (reads places) → other places ≡ give places) → Same (look_on x give reads) (look_on y other reads)
    look_on_same x y same give other reads gives h =
        ap (λ (z : Looked (List PathStep)). look_on z other reads) (same (front x.reads _ h)) ∙ by x.found (back x.reads _ h)
      where
        by : (f : Option (List (List PathStep))) → Shared (option_map_or reads f []) → look_on (record { found = f; reads = x.reads }) other reads ≡ look_on (record { found = f; reads = x.reads }) give reads
        by None k = refl
        by (Some places) k = ap (λ (xs : List X). record { found = Some xs; reads = x.reads ++ reads places }) (gives places k)

    give_on_same : (x y : Looked (List PathStep)) → Same x y → (give : List (List PathStep) → List X) → Same (give_on x give) (give_on y give)
    give_on_same x y same give h = ap (λ (z : Looked (List PathStep)). give_on z give) (same h)

    cond_same : (t : Bool) (x y p q : Looked X) → Same x y → Same p q → Same (cond t x p) (cond t y q)
    cond_same true x y p q first second = first
    cond_same false x y p q first second = second

  -- the same keys are asked, and their terms are the same where their reads are shared
  abbrev AskedSame : List Asked → List Asked → Type 0
  AskedSame [] [] = Unit {0}
  AskedSame [] (b ∷ qs) = ⊥
  AskedSame (a ∷ ps) [] = ⊥
  AskedSame (a ∷ ps) (b ∷ qs) = (b.key ≡ a.key) × Same a.given b.given × AskedSame ps qs

  keys_same : (ps qs : List Asked) → AskedSame ps qs → map (λ (a : Asked). a.key) qs ≡ map (λ (a : Asked). a.key) ps
  keys_same [] [] h = refl
  keys_same [] (b ∷ qs) h = absurd h
  keys_same (a ∷ ps) [] h = absurd h
  keys_same (a ∷ ps) (b ∷ qs) h = ap₂ (λ k ks. k ∷ ks) h.0 (keys_same ps qs h.2)

  -- whatever a term gives, its reads are among those of the choice
  choose_front : (f : Option (List (List ℕ))) (r : List Read) (later : Chosen) → Shared (choose f r later).reads → Shared r
  choose_front None r later h = h
  choose_front (Some []) r later h = h
  choose_front (Some (key ∷ [])) r later h = front r later.reads h
  choose_front (Some (key ∷ other ∷ more)) r later h = h

  choose_same : (f : Option (List (List ℕ))) (r : List Read) (later other : Chosen) → (Shared later.reads → other ≡ later)
      → Shared (choose f r later).reads → choose f r other ≡ choose f r later
  choose_same None r later other same h = refl
  choose_same (Some []) r later other same h = refl
  choose_same (Some (key ∷ [])) r later other same h = ap (choose (Some (key ∷ [])) r) (same (back r later.reads h))
  choose_same (Some (key ∷ next ∷ more)) r later other same h = refl

  chosen_same : (ps qs : List Asked) → AskedSame ps qs → Shared (chosen ps).reads → chosen qs ≡ chosen ps
  chosen_same [] [] same h = refl
  chosen_same [] (b ∷ qs) same h = absurd same
  chosen_same (a ∷ ps) [] same h = absurd same
  chosen_same (a ∷ ps) (b ∷ qs) same h =
      ap (λ (g : Looked (List ℕ)). choose g.found g.reads (chosen qs)) (same.1 (choose_front a.given.found a.given.reads (chosen ps) h))
      ∙ choose_same a.given.found a.given.reads (chosen ps) (chosen qs) (chosen_same ps qs same.2) h

  by_front : (items : Config) (name : List ℕ) (places : List (List PathStep)) (r : List Read) (c : Choice) → Shared (selected_by items name places r c).reads → Shared r
  by_front items name places r (choice.Keys keys) h = front r _ h
  by_front items name places r choice.Nothing h = h
  by_front items name places r choice.Many h = h

  by_same : (name : List ℕ) (places : List (List PathStep)) (r : List Read) (c : Choice) → Shared (selected_by v.items name places r c).reads
      → selected_by w.items name places r c ≡ selected_by v.items name places r c
  by_same name places r (choice.Keys keys) h =
      ap (λ found. record { found = Some found; reads = r ++ map read.Item (nodes_under name keys places) })
      (present_same (nodes_under name keys places) (back r _ h))
  by_same name places r choice.Nothing h = refl
  by_same name places r choice.Many h = refl

  module _ (name : List ℕ) (ps qs : List Asked) (asked : AskedSame ps qs) where
    selected_front : (f : Option (List (List PathStep))) (x : Looked (List PathStep)) → Shared (selected v.items x name ps f).reads → Shared x.reads
    selected_front None x h = h
    selected_front (Some []) x h = h
    selected_front (Some (place ∷ more)) x h =
        front x.reads (chosen ps).reads (by_front v.items name (place ∷ more) (x.reads ++ (chosen ps).reads) (chosen ps).choice h)

    selected_on : (f : Option (List (List PathStep))) (x : Looked (List PathStep)) → Shared (selected v.items x name ps f).reads
        → selected w.items x name qs f ≡ selected v.items x name ps f
    selected_on None x h = refl
    selected_on (Some []) x h = refl
    selected_on (Some (place ∷ more)) x h =
        let made = by_front v.items name (place ∷ more) (x.reads ++ (chosen ps).reads) (chosen ps).choice h in
        ap (λ (c : Chosen). selected_by w.items name (place ∷ more) (x.reads ++ c.reads) c.choice) (chosen_same ps qs asked (back x.reads (chosen ps).reads made))
        ∙ by_same name (place ∷ more) (x.reads ++ (chosen ps).reads) (chosen ps).choice h

    selected_same : (x y : Looked (List PathStep)) → Same x y → Same (selected v.items x name ps x.found) (selected w.items y name qs y.found)
    selected_same x y same h =
        ap (λ (z : Looked (List PathStep)). selected w.items z name qs z.found) (same (selected_front x.found x h))
        ∙ selected_on x.found x h

  alone_same : {X : Type 0} (ps qs : List Asked) → AskedSame ps qs → (x y : Looked (List PathStep)) → Same x y
      → (p q : Looked X) → Same p q → Same (alone ps x p) (alone qs y q)
  alone_same [] [] asked x y same p q found = found
  alone_same [] (b ∷ qs) asked x y same p q found = absurd asked
  alone_same (a ∷ ps) [] asked x y same p q found = absurd asked
  alone_same (a ∷ ps) (b ∷ qs) asked x y same p q found = give_on_same x y same (λ _. [])

  module _ (parent : List PathStep) (name : List ℕ) (x y : Looked (List PathStep)) (ps qs : List Asked) (before : Same x y) (asked : AskedSame ps qs) where
    abbrev s : LastStep
    s = record { parent = parent; before = x; name = name; asked = ps }

    abbrev t : LastStep
    t = record { parent = parent; before = y; name = name; asked = qs }

    nowhere_same : {X : Type 0} → Same {X = X} (nowhere x) (nowhere y)
    nowhere_same = give_on_same x y before (λ _. [])

    entries_look_same : Same (entries_look v.items s) (entries_look w.items t)
    entries_look_same = look_on_same x y before _ _ _ (λ places. entries_same (nodes_under name [] places))

    list_look_same : (keys : List (List ℕ)) → Same (list_look v.items s keys) (list_look w.items t keys)
    list_look_same keys = by ps qs asked refl refl
      where
        by : (cs ds : List Asked) → AskedSame cs ds → ps ≡ cs → qs ≡ ds → Same (list_look_by v.items s keys cs) (list_look_by w.items t keys ds)
        by [] [] h p q = entries_look_same
        by [] (d ∷ ds) h p q = absurd h
        by (c ∷ cs) [] h p q = absurd h
        by (c ∷ cs) (d ∷ ds) h p q =
            subst (λ u. Same (list_look_by v.items s keys (c ∷ cs)) (cond u (selected w.items y name qs y.found) (nowhere y)))
            (ap (λ names. pointwise (pointwise nat_eq) names keys) (sym (keys_same ps qs asked)))
            (cond_same (asks_each_key keys ps) _ _ _ _ (selected_same name ps qs asked x y before) nowhere_same)

    led_same : (sh : Shape) → Same (leads_by v.items s sh) (leads_by w.items t sh)
    led_same shape.Absent = nowhere_same
    led_same shape.Container = alone_same ps qs asked x y before _ _ (give_on_same x y before (nodes_under name []))
    led_same (shape.List keys) = list_look_same keys
    led_same (shape.Leaf default) = nowhere_same
    led_same (shape.Key place) = nowhere_same
    led_same shape.LeafList = nowhere_same

    texts_same : (sh : Shape) → Same (texts_by v.items s sh) (texts_by w.items t sh)
    texts_same shape.Absent = nowhere_same
    texts_same shape.Container = nowhere_same
    texts_same (shape.List keys) = give_on_same _ _ (list_look_same keys) (λ _. [])
    texts_same (shape.Leaf default) =
        alone_same ps qs asked x y before _ _ (look_on_same x y before _ _ _ (λ places. leaves_same default (nodes_under name [] places)))
    texts_same (shape.Key place) = alone_same ps qs asked x y before _ _ (give_on_same x y before (flat_map (key_at place)))
    texts_same shape.LeafList =
        alone_same ps qs asked x y before _ _
        (look_on_same x y before _ _ _ (λ places h. ap (flat_map keys_at_end) (entries_same (nodes_under name [] places) h)))

    nodes_same : (sh : Shape) → Same (nodes_by v.items s sh) (nodes_by w.items t sh)
    nodes_same shape.Absent = nowhere_same
    nodes_same shape.Container = nowhere_same
    nodes_same (shape.List keys) = list_look_same keys
    nodes_same (shape.Leaf default) =
        alone_same ps qs asked x y before _ _ (look_on_same x y before _ _ _ (λ places. present_same (nodes_under name [] places)))
    nodes_same (shape.Key place) = alone_same ps qs asked x y before _ _ (give_on_same x y before (nodes_under name []))
    nodes_same shape.LeafList = alone_same ps qs asked x y before _ _ entries_look_same

  record StepSame (s t : LastStep) : Type 0 where
    parent : t.parent ≡ s.parent
    name : t.name ≡ s.name
    before : Same s.before t.before
    asked : AskedSame s.asked t.asked

  -- the second step, with the names of the first
  step_is : (s t : LastStep) (same : StepSame s t) → record { parent = s.parent; before = t.before; name = s.name; asked = t.asked } ≡ t
  step_is s t same i = record { parent = sym same.parent i; before = t.before; name = sym same.name i; asked = t.asked }

  module _ {X : Type 0} (make : Config → LastStep → Shape → Looked X)
      (make_same : (parent : List PathStep) (name : List ℕ) (x y : Looked (List PathStep)) (ps qs : List Asked) → Same x y → AskedSame ps qs
      → (sh : Shape) → Same (make v.items (record { parent = parent; before = x; name = name; asked = ps }) sh) (make w.items (record { parent = parent; before = y; name = name; asked = qs }) sh)) where
    last_same : (s t : LastStep) → StepSame s t → Same (make v.items s (v.shapes s.parent s.name)) (make w.items t (w.shapes t.parent t.name))
    last_same s t same =
        subst (λ (u : LastStep). Same (make v.items s (v.shapes s.parent s.name)) (make w.items u (w.shapes u.parent u.name))) (step_is s t same)
        (subst (λ sh. Same (make v.items s (v.shapes s.parent s.name)) (make w.items (record { parent = s.parent; before = t.before; name = s.name; asked = t.asked }) sh))
        (shapes s.parent s.name)
        (make_same s.parent s.name s.before t.before s.asked t.asked same.before same.asked (v.shapes s.parent s.name)))

  abbrev ReachedSame : Reached → Reached → Type 0
  ReachedSame Context Context = Unit {0}
  ReachedSame Context (Given b) = ⊥
  ReachedSame Context (Last t) = ⊥
  ReachedSame (Given a) Context = ⊥
  ReachedSame (Given a) (Given b) = b ≡ a
  ReachedSame (Given a) (Last t) = ⊥
  ReachedSame (Last s) Context = ⊥
  ReachedSame (Last s) (Given b) = ⊥
  ReachedSame (Last s) (Last t) = StepSame s t

  module _ (here : List PathStep) where
    leads_same : (a b : Reached) → ReachedSame a b → Same (leads v here a) (leads w here b)
    leads_same Context Context same = λ _. refl
    leads_same Context (Given b) same = absurd same
    leads_same Context (Last t) same = absurd same
    leads_same (Given a) Context same = absurd same
    leads_same (Given a) (Given b) same = λ _. refl
    leads_same (Given a) (Last t) same = absurd same
    leads_same (Last s) Context same = absurd same
    leads_same (Last s) (Given b) same = absurd same
    leads_same (Last s) (Last t) same = last_same leads_by led_same s t same

    context_is : (o : Option PathStep) → option_map_or (λ (last : PathStep). w.shapes (front_of here) last.node) o shape.Absent ≡ option_map_or (λ (last : PathStep). v.shapes (front_of here) last.node) o shape.Absent
    context_is None = refl
    context_is (Some last) = sym (shapes (front_of here) last.node)

    context_texts_same : (sh : Shape) → Same (context_texts v.items here sh) (context_texts w.items here sh)
    context_texts_same shape.Absent h = refl
    context_texts_same shape.Container h = refl
    context_texts_same (shape.List keys) h = refl
    context_texts_same (shape.Leaf default) h =
        let at : get v.items here ≡ get w.items here = All-head (SharesRead v w) (read.Item here) [] h in
        ap (λ o. record { found = Some (text_or default o); reads = read.Item here ∷ [] }) (sym at)
    context_texts_same (shape.Key place) h = refl
    context_texts_same shape.LeafList h = refl

    context_nodes_same : (sh : Shape) → Same (context_nodes v.items here sh) (context_nodes w.items here sh)
    context_nodes_same shape.Absent h = refl
    context_nodes_same shape.Container h = refl
    context_nodes_same (shape.List keys) h = refl
    context_nodes_same (shape.Leaf default) h =
        ap (λ found. record { found = Some found; reads = read.Item here ∷ [] }) (present_same (here ∷ []) h)
    context_nodes_same (shape.Key place) h = refl
    context_nodes_same shape.LeafList h = refl

    texts_at_same : (a b : Reached) → ReachedSame a b → Same (texts_at v here a) (texts_at w here b)
    texts_at_same Context Context same =
        subst (λ sh. Same (context_texts v.items here (context_shape v here)) (context_texts w.items here sh)) (sym (context_is (slice_get here (length here - 1))))
        (context_texts_same (context_shape v here))
    texts_at_same Context (Given b) same = absurd same
    texts_at_same Context (Last t) same = absurd same
    texts_at_same (Given a) Context same = absurd same
    texts_at_same (Given a) (Given b) same = λ _. ap (λ (text : List ℕ). looked (text ∷ [])) same
    texts_at_same (Given a) (Last t) same = absurd same
    texts_at_same (Last s) Context same = absurd same
    texts_at_same (Last s) (Given b) same = absurd same
    texts_at_same (Last s) (Last t) same = last_same texts_by texts_same s t same

    nodes_at_same : (a b : Reached) → ReachedSame a b → Same (nodes_at v here a) (nodes_at w here b)
    nodes_at_same Context Context same =
        subst (λ sh. Same (context_nodes v.items here (context_shape v here)) (context_nodes w.items here sh)) (sym (context_is (slice_get here (length here - 1))))
        (context_nodes_same (context_shape v here))
    nodes_at_same Context (Given b) same = absurd same
    nodes_at_same Context (Last t) same = absurd same
    nodes_at_same (Given a) Context same = absurd same
    nodes_at_same (Given a) (Given b) same = λ _. refl
    nodes_at_same (Given a) (Last t) same = absurd same
    nodes_at_same (Last s) Context same = absurd same
    nodes_at_same (Last s) (Given b) same = absurd same
    nodes_at_same (Last s) (Last t) same = last_same nodes_by nodes_same s t same

    parent_same : (a b : Reached) → ReachedSame a b → parent_at here b ≡ parent_at here a
    parent_same Context Context same = refl
    parent_same Context (Given b) same = absurd same
    parent_same Context (Last t) same = absurd same
    parent_same (Given a) Context same = absurd same
    parent_same (Given a) (Given b) same = refl
    parent_same (Given a) (Last t) same = absurd same
    parent_same (Last s) Context same = absurd same
    parent_same (Last s) (Given b) same = absurd same
    parent_same (Last s) (Last t) same = ap₂ parent_behind same.parent same.name

    asked_push : (ps qs : List Asked) → AskedSame ps qs → (a b : Asked) → b.key ≡ a.key → Same a.given b.given → AskedSame (ps ++ a ∷ []) (qs ++ b ∷ [])
    asked_push [] [] same a b key given = (key, given, tt)
    asked_push [] (d ∷ ds) same a b key given = absurd same
    asked_push (c ∷ cs) [] same a b key given = absurd same
    asked_push (c ∷ cs) (d ∷ ds) same a b key given = (same.0, same.1, asked_push cs ds same.2 a b key given)

    ask_same : (a b : Reached) → ReachedSame a b → (key : List ℕ) (x y : Looked (List ℕ)) → Same x y → ReachedSame (ask a key x) (ask b key y)
    ask_same Context Context same key x y given = tt
    ask_same Context (Given b) same key x y given = absurd same
    ask_same Context (Last t) same key x y given = absurd same
    ask_same (Given a) Context same key x y given = absurd same
    ask_same (Given a) (Given b) same key x y given = same
    ask_same (Given a) (Last t) same key x y given = absurd same
    ask_same (Last s) Context same key x y given = absurd same
    ask_same (Last s) (Given b) same key x y given = absurd same
    ask_same (Last s) (Last t) same key x y given = record {
      parent = same.parent;
      name = same.name;
      before = same.before;
      asked = asked_push s.asked t.asked same.asked (record { key = key; given = x }) (record { key = key; given = y }) refl given;
    }

    reached_same : (e : Expression) → ReachedSame (followed v here e) (followed w here e)
    reached_same Here = tt
    reached_same (FromRoot name) = record { parent = refl; name = refl; before = λ _. refl; asked = tt }
    reached_same (FromContext ups name) = record { parent = refl; name = refl; before = λ _. refl; asked = tt }
    reached_same (Below e name) = record {
      parent = parent_same (followed v here e) (followed w here e) (reached_same e);
      name = refl;
      before = leads_same (followed v here e) (followed w here e) (reached_same e);
      asked = tt;
    }
    reached_same (Where e key term) =
        ask_same (followed v here e) (followed w here e) (reached_same e) key _ _
        (texts_at_same (followed v here term) (followed w here term) (reached_same term))
    reached_same (Quoted text) = refl

module _ (e : Expression) (here : List PathStep) (v : Viewed) where
  pub texts_sound : IsFixedByReads (texts_of e here) (λ look. look.reads) v
  texts_sound w shared = texts_at_same v w shared.shapes here (followed v here e) (followed w here e) (reached_same v w shared.shapes here e) shared.read

  pub nodes_sound : IsFixedByReads (nodes_of e here) (λ look. look.reads) v
  nodes_sound w shared = nodes_at_same v w shared.shapes here (followed v here e) (followed w here e) (reached_same v w shared.shapes here e) shared.read

pub judged_sound : (c : Condition) (here : List PathStep) (v : Viewed) → IsFixedByReads (judged c here) (λ made. made.reads) v
judged_sound c here v w shared = ap (judged_by c.test) (texts_sound c.look here v w shared)
