-- Where the target of a leafref stands once below the entries that it shares, one row alone can have the text as its
-- value, and it can lack at one path alone.
use Rattle.std.proofs.Common.{◌≡◌, ℕ, zero, suc, ◌+◌, ◌-◌, ◌<◌, ◌≤◌, ◌⊎◌, inl, inr, Bool, true, false, ◌&&◌, ◌||◌, cond, nat_eq, nat_lt, List, [], ◌∷◌, ◌++◌, length, take, drop, map, refl, sym, ap, subst, ◌∙◌, arith, append_assoc}
use Rattle.std.specs.Prelude.{Option, Some, None, is_some, is_none, option_and_then, if◌then◌else◌}
use Rattle.std.specs.Option.{option_map_or}
use Rattle.std.specs.List.{list_any, filter}
use Rattle.std.specs.Ordering.{is_eq}
use Rattle.std.specs.declared.cmp.Ordering.{Ordering}
use Rattle.std.specs.declared.cmp.Ordering.TheVariants.{Less, Equal, Greater}
use Rattle.std.specs.Cmp.{both_ways}
use Rattle.std.specs.FinMap.{find, get, entries, get-entries}
use Rattle.std.proofs.lemmas.Bool.{false≢true, and_parts, and_from, eqb-true, ltb-true, ltb-false}
use Rattle.std.proofs.lemmas.List.{take-append-drop, length-append, length-map, map-append}
use Rattle.orc_path.specs.Steps.{PathStep}
use Rattle.orc_path.specs.Order.{path_cmp, step_eq}
use Rattle.std.specs.Cmp.Lexicographic.{pointwise, bytes_decides}
use Rattle.orc_path.specs.Configurations.{Config}
use Rattle.orc_path.specs.declared.item.Item.{Item}
use Rattle.orc_path.specs.declared.item.Item.TheVariants as item
use Rattle.orc_path.proofs.Equality.{path_eq_decides}
use Rattle.orc_path.proofs.PathOrder.{path_cmp_exact}
use Rattle.orc_tree.proofs.Maps.{Rows}
use Rattle.orc_value.specs.Canon.{same_text}
use Rattle.orc_schema_nodes.specs.Names.{same_names}
use Rattle.orc_schema_nodes.specs.Schemas.{SchemaTable, path_names, node_at}
use Rattle.orc_schema_nodes.specs.declared.line.Node.{Node}
use Rattle.orc_schema_nodes.specs.declared.line.Node.TheVariants.{Container, List as ListOf, Leaf, LeafList}
use Rattle.orc_schema_nodes.specs.declared.line.Target.{Target}
use Rattle.orc_typed.specs.Typed.{stands_at, stand, carries, is_carried, is_in_schema, step_kinds}
use Rattle.orc_check.specs.Validity.{last_keys, key_values, entry_values, item_values, values_of, is_container, is_list, is_place, places, behind, goes_down, plain_step, plain_steps, shares, is_value_of, row_has, default_in, has_default, place_lacks, has_instance}
use Rattle.orc_check.specs.inside.Named.{is_leaf_list, has_key_named, IsSingle, named_path, leaf_path, is_present, is_lacked_above, has_at_leaf}
use Rattle.orc_check.proofs.Ended.{Names, names_are, same_ends, no_keys, Ended, ended}
use Rattle.orc_check.proofs.Named.{key_of, value_of}
use Rattle.orc_check.proofs.Alone.{any_at, or_false}
use Rattle.orc_check.proofs.Reached.{is_behind}

not_true : (b : Bool) → (b ≡ true → ⊥) → b ≡ false
not_true true f = absurd (f refl)
not_true false f = refl

-- ---- what a row has that holds a text of the target

pub record Holds (s : SchemaTable) (target : Target) (text : List ℕ) (path : List PathStep) (row : List PathStep × Item) : Type 0 where
  pub shared : shares target.shared row.0 path ≡ true
  pub stands : stand s [] row.0 ≡ true
  pub carried : is_carried s row.0 row.1 ≡ true
  pub held : list_any (is_value_of target.names text) (item_values s row.0 row.1) ≡ true

pub holds : (s : SchemaTable) (target : Target) (text : List ℕ) (path : List PathStep) (row : List PathStep × Item) → s.plain ≡ false
    → row_has s target text path row ≡ true → Holds s target text path row
holds s target text path row plain h =
    let parts = and_parts (shares target.shared row.0 path) (list_any (is_value_of target.names text) (values_of s row)) h in
    on (is_in_schema s row.0 row.1) refl parts.0 parts.1
  where
    on : (b : Bool) → is_in_schema s row.0 row.1 ≡ b → shares target.shared row.0 path ≡ true
        → list_any (is_value_of target.names text) (if b then item_values s row.0 row.1 else []) ≡ true → Holds s target text path row
    on false e sh h = absurd (false≢true h)
    on true e sh h =
        let typed : (stand s [] row.0 && is_carried s row.0 row.1) ≡ true = ap (λ b. b || (stand s [] row.0 && is_carried s row.0 row.1)) (sym plain) ∙ e in
        let both = and_parts (stand s [] row.0) (is_carried s row.0 row.1) typed in
        record { shared = sh; stands = both.0; carried = both.1; held = h }

-- the one key of an entry of a leaf-list
value_key : (own : Names) (texts : List (List ℕ)) (names : Names) (text : List ℕ)
    → list_any (is_value_of names text) (map (λ key. record { names = own; text = key }) texts) ≡ true → length texts ≡ 1 → texts ≡ text ∷ []
value_key own [] names text h one = absurd (omega arith)
value_key own (t ∷ u ∷ ts) names text h one = absurd (omega arith)
value_key own (t ∷ []) names text h one =
    let held = and_parts (same_names own names) (same_text t text) (or_none _ h) in
    ap (λ (x : List ℕ). x ∷ []) ((bytes_decides t text).0 held.1)
  where
    or_none : (b : Bool) → (b || false) ≡ true → b ≡ true
    or_none true h = refl
    or_none false h = h

at_values : (s : SchemaTable) (names : Names) (step : PathStep) → is_leaf_list (node_at s names) ≡ true → stands_at s names step ≡ true → length step.keys ≡ 1
at_values s names step c h = on (node_at s names) c h
  where
    on : (o : Option Node) → is_leaf_list o ≡ true → (is_some o && nat_eq (length step.keys) (length (option_map_or (step_kinds s names) o []))) ≡ true
        → length step.keys ≡ 1
    on None c h = absurd (false≢true c)
    on (Some Container) c h = absurd (false≢true c)
    on (Some (ListOf l)) c h = absurd (false≢true c)
    on (Some (Leaf l)) c h = absurd (false≢true c)
    on (Some (LeafList l)) c h = eqb-true _ _ h

at_leaf : (s : SchemaTable) (names : Names) (step : PathStep) (t : List ℕ) → option_map_or (λ node. carries node (item.Leaf t)) (node_at s names) false ≡ true
    → stands_at s names step ≡ true → step.keys ≡ []
at_leaf s names step t c h = on (node_at s names) c h
  where
    on : (o : Option Node) → option_map_or (λ node. carries node (item.Leaf t)) o false ≡ true
        → (is_some o && nat_eq (length step.keys) (length (option_map_or (step_kinds s names) o []))) ≡ true → step.keys ≡ []
    on None c h = absurd (false≢true c)
    on (Some Container) c h = absurd (false≢true c)
    on (Some (ListOf l)) c h = absurd (false≢true c)
    on (Some (Leaf l)) c h = no_keys step.keys (eqb-true _ _ h)
    on (Some (LeafList l)) c h = absurd (false≢true c)

first_names : (b : Bool) (own names : Names) (t text : List ℕ) → same_names own names ≡ b → ((b && same_text t text) || false) ≡ true → own ≡ names
first_names true own names t text e h = names_are _ _ e
first_names false own names t text e h = absurd (false≢true h)

module _ (s : SchemaTable) (target : Target) (before : Names) (last text : List ℕ) (is : IsSingle s target before last) where
  -- no key of a list is a value of the target
  no_list : (p : List PathStep) (keys : List (List ℕ)) → has_key_named last (node_at s (path_names p)) ≡ list_any (λ key. same_text key last) keys
      → list_any (is_value_of target.names text) (key_values (path_names p) keys (last_keys p)) ≡ true → ⊥
  no_list p keys e h =
      let found = key_of (path_names p) keys (last_keys p) target.names text h in
      let ends = same_ends (path_names p) before found.0 last (sym found.1 ∙ is.names) in
      false≢true (sym is.own ∙ ap (λ (ns : Names). has_key_named last (node_at s ns)) (sym ends.0) ∙ e
      ∙ ap (λ (k : List ℕ). list_any (λ key. same_text key k) keys) (sym ends.1) ∙ found.2)

  -- an entry that holds a value of the target is one of the leaf-list that it is
  record HoldsValue (p : List PathStep) : Type 0 where
    pub names : path_names p ≡ target.names
    pub values : is_leaf_list (node_at s target.names) ≡ true
    pub own : length (last_keys p) ≡ 1 → last_keys p ≡ text ∷ []

  in_entry : (p : List PathStep) (o : Option Node) → node_at s (path_names p) ≡ o
      → list_any (is_value_of target.names text) (option_map_or (entry_values (path_names p) (last_keys p)) o []) ≡ true → HoldsValue p
  in_entry p None e h = absurd (false≢true h)
  in_entry p (Some Container) e h = absurd (false≢true h)
  in_entry p (Some (Leaf l)) e h = absurd (false≢true h)
  in_entry p (Some (ListOf l)) e h = absurd (no_list p l.keys (ap (has_key_named last) e) h)
  in_entry p (Some (LeafList l)) e h =
      let same : path_names p ≡ target.names = value_of (path_names p) (last_keys p) target.names text h in
      record {
        names = same;
        values = ap (λ (ns : Names). is_leaf_list (node_at s ns)) (sym same) ∙ ap is_leaf_list e;
        own = value_key (path_names p) (last_keys p) target.names text h;
      }

  -- a leaf that does is the target
  carried_at : (p : List PathStep) (t : List ℕ) → is_carried s p (item.Leaf t) ≡ true → path_names p ≡ target.names
      → option_map_or (λ node. carries node (item.Leaf t)) (node_at s target.names) false ≡ true
  carried_at [] t c e = absurd (false≢true c)
  carried_at (x ∷ xs) t c e = subst (λ (ns : Names). option_map_or (λ node. carries node (item.Leaf t)) (node_at s ns) false ≡ true) e c

  no_value : (o : Option Node) (t : List ℕ) → is_leaf_list o ≡ true → option_map_or (λ node. carries node (item.Leaf t)) o false ≡ true → ⊥
  no_value None t v c = false≢true v
  no_value (Some Container) t v c = false≢true v
  no_value (Some (ListOf l)) t v c = false≢true v
  no_value (Some (Leaf l)) t v c = false≢true v
  no_value (Some (LeafList l)) t v c = false≢true c

  end_of : (path p : List PathStep) → shares target.shared p path ≡ true → stand s [] p ≡ true → path_names p ≡ target.names → Ended s target.shared before last path p
  end_of path p sh st e = ended s target.shared before last is.shared is.down path p sh st (e ∙ is.names)

  in_value : (path p : List PathStep) → shares target.shared p path ≡ true → stand s [] p ≡ true → HoldsValue p → p ≡ named_path target before last text path
  in_value path p sh st held =
      let n = target.shared in
      let end = end_of path p sh st held.names in
      let values : is_leaf_list (node_at s (before ++ last ∷ [])) ≡ true = ap (λ (ns : Names). is_leaf_list (node_at s ns)) (sym is.names) ∙ held.values in
      let one : length end.last.keys ≡ 1 = at_values s (before ++ last ∷ []) end.last values end.stands in
      let keys : end.last.keys ≡ text ∷ [] = sym end.keys ∙ held.own (ap length end.keys ∙ one) in
      let is_last : end.last ≡ record { node = last; keys = text ∷ [] } =
      ap (λ (m : List ℕ). record { node = m; keys = end.last.keys }) end.name ∙ ap (λ (ks : List (List ℕ)). record { node = last; keys = ks }) keys in
      end.parts ∙ ap (λ (x : PathStep). take n path ++ (plain_steps (drop n before) ++ x ∷ [])) is_last

  -- one entry alone can have the text as a value of a leaf-list
  pub only_value : is_leaf_list (node_at s target.names) ≡ true → (path : List PathStep) (row : List PathStep × Item) → row_has s target text path row ≡ true
      → row.0 ≡ named_path target before last text path
  only_value values path row h = on row.1 (holds s target text path row is.typed h)
    where
      on : (it : Item) → Holds s target text path (row.0, it) → row.0 ≡ named_path target before last text path
      on item.Entry held = in_value path row.0 held.shared held.stands (in_entry row.0 (node_at s (path_names row.0)) refl held.held)
      on (item.Leaf t) held =
          absurd (no_value (node_at s target.names) t values
          (carried_at row.0 t held.carried (first_names _ (path_names row.0) target.names t text refl held.held)))

  -- nor has a leaf-list a default
  pub no_value_default : is_leaf_list (node_at s target.names) ≡ true → has_default s target.names text ≡ false
  no_value_default values = on (node_at s target.names) values
    where
      on : (o : Option Node) → is_leaf_list o ≡ true → option_map_or (same_text text) (option_and_then default_in o) false ≡ false
      on None h = refl
      on (Some Container) h = refl
      on (Some (ListOf l)) h = refl
      on (Some (Leaf l)) h = absurd (false≢true h)
      on (Some (LeafList l)) h = refl

  -- the plain steps of names, and of one more
  plain_last : (ns : Names) (n : List ℕ) → plain_steps (ns ++ n ∷ []) ≡ plain_steps ns ++ plain_step n ∷ []
  plain_last ns n = map-append plain_step ns (n ∷ [])

  drop_names : drop target.shared target.names ≡ drop target.shared before ++ last ∷ []
  drop_names = ap (drop target.shared) is.names ∙ drop_last target.shared before is.shared
    where
      drop_last : (n : ℕ) (xs : Names) → n ≤ length xs → drop n (xs ++ last ∷ []) ≡ drop n xs ++ last ∷ []
      drop_last zero xs l = refl
      drop_last (suc n) [] l = absurd (omega arith)
      drop_last (suc n) (y ∷ xs) l = drop_last n xs (omega arith)

  in_leaf : (path p : List PathStep) (t : List ℕ) → shares target.shared p path ≡ true → stand s [] p ≡ true → is_carried s p (item.Leaf t) ≡ true → path_names p ≡ target.names
      → p ≡ leaf_path target path
  in_leaf path p t sh st c e =
      let n = target.shared in
      let end = end_of path p sh st e in
      let at : option_map_or (λ node. carries node (item.Leaf t)) (node_at s (before ++ last ∷ [])) false ≡ true =
      ap (λ (ns : Names). option_map_or (λ node. carries node (item.Leaf t)) (node_at s ns) false) (sym is.names) ∙ carried_at p t c e in
      let keys : end.last.keys ≡ [] = at_leaf s (before ++ last ∷ []) end.last t at end.stands in
      let is_last : end.last ≡ plain_step last =
      ap (λ (m : List ℕ). record { node = m; keys = end.last.keys }) end.name ∙ ap (λ (ks : List (List ℕ)). record { node = last; keys = ks }) keys in
      end.parts ∙ ap (λ (x : PathStep). take n path ++ (plain_steps (drop n before) ++ x ∷ [])) is_last
      ∙ ap (λ (xs : List PathStep). take n path ++ xs) (sym (plain_last (drop n before) last))
      ∙ ap (λ (ns : Names). take n path ++ plain_steps ns) (sym drop_names)

  -- one leaf alone can have the text
  pub only_leaf : is_leaf_list (node_at s target.names) ≡ false → (path : List PathStep) (row : List PathStep × Item) → row_has s target text path row ≡ true
      → row.0 ≡ leaf_path target path
  only_leaf leaf path row h = on row.1 (holds s target text path row is.typed h)
    where
      on : (it : Item) → Holds s target text path (row.0, it) → row.0 ≡ leaf_path target path
      on item.Entry held = absurd (false≢true (sym leaf ∙ (in_entry row.0 (node_at s (path_names row.0)) refl held.held).values))
      on (item.Leaf t) held =
          in_leaf path row.0 t held.shared held.stands held.carried (first_names _ (path_names row.0) target.names t text refl held.held)

-- ---- where the target lacks

-- below the first of names that go down, each but the last is a container's
down_at : (s : SchemaTable) (above rest : Names) (k : ℕ) → goes_down s above rest ≡ true → 0 < k → k < length rest → is_container (node_at s (above ++ take k rest)) ≡ true
down_at s above [] k h p l = absurd (omega arith)
down_at s above (x ∷ []) k h p l = absurd (omega arith)
down_at s above (x ∷ y ∷ rest) zero h p l = absurd (omega arith)
down_at s above (x ∷ y ∷ rest) (suc zero) h p l = (and_parts (is_container (node_at s (above ++ x ∷ []))) _ h).0
down_at s above (x ∷ y ∷ rest) (suc (suc k)) h p l =
    ap (λ (ns : Names). is_container (node_at s ns)) (sym (append_assoc above (x ∷ []) (take (suc k) (y ∷ rest))))
    ∙ down_at s (above ++ x ∷ []) (y ∷ rest) (suc k) (and_parts (is_container (node_at s (above ++ x ∷ []))) _ h).1 (omega arith) (omega arith)

no_both : (o : Option Node) → is_container o ≡ true → is_list o ≡ true → ⊥
no_both None c l = false≢true c
no_both (Some Container) c l = false≢true l
no_both (Some (ListOf m)) c l = false≢true c
no_both (Some (Leaf m)) c l = false≢true c
no_both (Some (LeafList m)) c l = false≢true c

take_whole : {X : Type 0} (xs ys : List X) → take (length xs) (xs ++ ys) ≡ xs
take_whole [] ys = refl
take_whole (x ∷ xs) ys = ap (λ zs. x ∷ zs) (take_whole xs ys)

drop_append : {X : Type 0} (n : ℕ) (xs ys : List X) → length xs ≤ n → drop n (xs ++ ys) ≡ drop (n - length xs) ys
drop_append n [] ys l = ap (λ k. drop k ys) {x = n} {y = n - 0} (omega arith)
drop_append zero (x ∷ xs) ys l = absurd (omega arith)
drop_append (suc n) (x ∷ xs) ys l =
    drop_append n xs ys (omega arith) ∙ ap (λ k. drop k ys) {x = n - length xs} {y = suc n - suc (length xs)} (omega arith)

drop_plain : (n : ℕ) (names : Names) → drop n (plain_steps names) ≡ plain_steps (drop n names)
drop_plain zero names = refl
drop_plain (suc n) [] = refl
drop_plain (suc n) (x ∷ names) = drop_plain n names

take_take : {X : Type 0} (m n : ℕ) (xs : List X) → m ≤ n → take m (take n xs) ≡ take m xs
take_take zero n xs l = refl
take_take (suc m) zero xs l = absurd (omega arith)
take_take (suc m) (suc n) [] l = refl
take_take (suc m) (suc n) (x ∷ xs) l = ap (λ zs. x ∷ zs) (take_take m n xs (omega arith))

take_nil : (k : ℕ) → ◌≡◌ {A = Names} (take k []) []
take_nil zero = refl
take_nil (suc k) = refl

take_further : (a b : ℕ) (xs : Names) → take a xs ++ take b (drop a xs) ≡ take (a + b) xs
take_further zero b xs = ap (λ k. take k xs) {x = b} {y = 0 + b} (omega arith)
take_further (suc a) b [] = take_nil b ∙ sym (take_nil (suc a + b))
take_further (suc a) b (x ∷ xs) =
    ap (λ (zs : Names). x ∷ zs) (take_further a b xs) ∙ ap (λ k. take k (x ∷ xs)) {x = suc (a + b)} {y = suc a + b} (omega arith)

length_take : {X : Type 0} (n : ℕ) (xs : List X) → n ≤ length xs → length (take n xs) ≡ n
length_take zero xs l = refl
length_take (suc n) [] l = absurd (omega arith)
length_take (suc n) (x ∷ xs) l = ap (λ k. suc k) (length_take n xs (omega arith))

-- a place below which the target lacks, under the same entries as the path
record Lacks (s : SchemaTable) (c : Config) (target : Target) (path place : List PathStep) (later : Names) : Type 0 where
  names : target.names ≡ path_names place ++ later
  down : goes_down s (path_names place) later ≡ true
  absent : is_none (get c (place ++ plain_steps later)) ≡ true
  same : take target.shared (place ++ plain_steps later) ≡ take target.shared path

lacks : (s : SchemaTable) (c : Config) (target : Target) (path place : List PathStep) → place_lacks s c target path place ≡ true
    → (later : Names) × Lacks s c target path place later
lacks s c target path place h = on (behind place target.names) refl h
  where
    by : (later : Names) → behind place target.names ≡ Some later → (b : Bool) → goes_down s (path_names place) later ≡ b
        → option_map_or (λ own. is_none (get c own) && shares target.shared own path) (if b then Some (place ++ plain_steps later) else None) false ≡ true
        → (ls : Names) × Lacks s c target path place ls
    by later e false d h = absurd (false≢true h)
    by later e true d h =
        let is = is_behind place target.names later e in
        let parts = and_parts (is_none (get c (place ++ plain_steps later))) (shares target.shared (place ++ plain_steps later) path) h in (
          later,
          record {
            names = sym (take-append-drop (length place) target.names) ∙ ap (λ (ns : Names). ns ++ drop (length place) target.names) is.front ∙ ap (λ (ns : Names). path_names place ++ ns) is.back;
            down = d;
            absent = parts.0;
            same = (path_eq_decides (take target.shared (place ++ plain_steps later)) (take target.shared path)).0 parts.1;
          },
        )

    on : (o : Option Names) → behind place target.names ≡ o
        → option_map_or (λ own. is_none (get c own) && shares target.shared own path)
        (option_and_then (λ later. if goes_down s (path_names place) later then Some (place ++ plain_steps later) else None) o) false ≡ true
        → (ls : Names) × Lacks s c target path place ls
    on None e h = absurd (false≢true h)
    on (Some later) e h = by later e (goes_down s (path_names place) later) refl h

-- ---- rows and places

pub or_true : (b d : Bool) → d ≡ true → (b || d) ≡ true
or_true true d e = refl
or_true false d e = e

pub any_found : (f : (List PathStep × Item) → Bool) (q : List PathStep) (it : Item) (rows : Rows) → find path_cmp q rows ≡ Some it → f (q, it) ≡ true → list_any f rows ≡ true
any_found f q it [] e h = cc
any_found f q it (row ∷ rows) e h = on (path_cmp q row.0) refl e (any_found f q it rows)
  where
    on : (o : Ordering) → path_cmp q row.0 ≡ o → cond (is_eq o) (Some row.1) (find path_cmp q rows) ≡ Some it
        → (find path_cmp q rows ≡ Some it → f (q, it) ≡ true → list_any f rows ≡ true) → (f row || list_any f rows) ≡ true
    on Less e w go = or_true (f row) (list_any f rows) (go w h)
    on Greater e w go = or_true (f row) (list_any f rows) (go w h)
    on Equal e w go =
        let same : q ≡ row.0 = path_cmp_exact q row.0 e in
        let found : row.1 ≡ it = cc in
        let here : f row ≡ true = ap (λ (p : List PathStep). f (p, row.1)) (sym same) ∙ ap (λ (i : Item). f (q, i)) found ∙ h in
        ap (λ b. b || list_any f rows) here

-- a row that passes a test, and settles each test that it passes
record One (f : (List PathStep × Item) → Bool) (rows : Rows) : Type 0 where
  row : List PathStep × Item
  passes : f row ≡ true
  among : (h : (List PathStep × Item) → Bool) → h row ≡ true → list_any h rows ≡ true

any_one : (f : (List PathStep × Item) → Bool) (rows : Rows) → list_any f rows ≡ true → One f rows
any_one f [] e = absurd (false≢true e)
any_one f (row ∷ rows) e = on (f row) refl e (any_one f rows)
  where
    on : (b : Bool) → f row ≡ b → (b || list_any f rows) ≡ true → (list_any f rows ≡ true → One f rows) → One f (row ∷ rows)
    on true e w go = record { row = row; passes = e; among = λ h k. ap (λ b. b || list_any h rows) k }
    on false e w go =
        let one = go w in
        record { row = one.row; passes = one.passes; among = λ h k. or_true (h row) (list_any h rows) (one.among h k) }

pub any_places : (s : SchemaTable) (f : List PathStep → Bool) (rows : Rows) → list_any f (map (λ row. row.0) (filter (is_place s) rows)) ≡ list_any (λ row. is_place s row && f row.0) rows
any_places s f [] = refl
any_places s f (row ∷ rows) = on (is_place s row) (any_places s f rows)
  where
    on : (b : Bool) → list_any f (map (λ row. row.0) (filter (is_place s) rows)) ≡ list_any (λ row. is_place s row && f row.0) rows
        → list_any f (map (λ row. row.0) (cond b (row ∷ filter (is_place s) rows) (filter (is_place s) rows)))
        ≡ ((b && f row.0) || list_any (λ row. is_place s row && f row.0) rows)
    on true go = ap (λ b. f row.0 || b) go
    on false go = go

pub above_step : (s : SchemaTable) (c : Config) (target : Target) (path : List PathStep) (k j : ℕ) → k ≡ suc j
    → ((is_present s c (take k path) && place_lacks s c target path (take k path)) || is_lacked_above s c target path j) ≡ is_lacked_above s c target path k
above_step s c target path k j e =
    ap (λ m. (is_present s c (take m path) && place_lacks s c target path (take m path)) || is_lacked_above s c target path j) e
    ∙ ap (is_lacked_above s c target path) (sym e)

module _ (s : SchemaTable) (c : Config) (target : Target) (before : Names) (last text : List ℕ) (is : IsSingle s target before last) (path : List PathStep) where
  abbrev n : ℕ
  n = target.shared

  -- such a place is no deeper than the entries that are shared
  not_deeper : (place : List PathStep) (later : Names) → (place ≡ []) ⊎ (is_list (node_at s (path_names place)) ≡ true) → Lacks s c target path place later → length place ≤ n
  not_deeper place later root lack = on root (nat_lt n (length place)) refl
    where
      use_it : n < length place → is_list (node_at s (path_names place)) ≡ true → ⊥
      use_it deep list =
          let m = length place in
          let names : before ++ last ∷ [] ≡ path_names place ++ later = sym is.names ∙ lack.names in
          let whole : length (before ++ last ∷ []) ≡ length (path_names place) + length later = ap length names ∙ length-append (path_names place) later in
          let some : 0 < length later = some_later later lack.down in
          let size : length (path_names place) ≡ m = length-map place (λ (x : PathStep). x.node) in
          let rest : length (take n (before ++ last ∷ [])) ≡ n = length_take n (before ++ last ∷ []) (omega (arith, whole, size)) in
          let cut : take n (before ++ last ∷ []) ++ drop n (before ++ last ∷ []) ≡ before ++ last ∷ [] = take-append-drop n (before ++ last ∷ []) in
          let long : n + length (drop n (before ++ last ∷ [])) ≡ length (before ++ last ∷ []) =
          ap (λ k. k + length (drop n (before ++ last ∷ []))) (sym rest) ∙ sym (length-append (take n (before ++ last ∷ [])) (drop n (before ++ last ∷ []))) ∙ ap length cut in
          let at = down_at s (take n (before ++ last ∷ [])) (drop n (before ++ last ∷ [])) (m - n) is.down (omega arith) (omega (arith, long, whole, size, some)) in
          let there : take n (before ++ last ∷ []) ++ take (m - n) (drop n (before ++ last ∷ [])) ≡ path_names place =
          take_further n (m - n) (before ++ last ∷ []) ∙ ap (λ (ns : Names). take (n + (m - n)) ns) names
          ∙ ap (λ k. take k (path_names place ++ later)) {x = n + (m - n)} {y = length (path_names place)} (omega (arith, size)) ∙ take_whole (path_names place) later in
          no_both (node_at s (path_names place)) (ap (λ (ns : Names). is_container (node_at s ns)) (sym there) ∙ at) list
        where
          some_later : (ls : Names) → goes_down s (path_names place) ls ≡ true → 0 < length ls
          some_later [] h = absurd (false≢true h)
          some_later (x ∷ xs) h = omega arith

      on : (place ≡ []) ⊎ (is_list (node_at s (path_names place)) ≡ true) → (b : Bool) → nat_lt n (length place) ≡ b → length place ≤ n
      on (inl e) b l = omega (arith, ap length e)
      on (inr list) true l = absurd (use_it (ltb-true n (length place) l) list)
      on (inr list) false l = ltb-false n (length place) l

  -- it is the first steps of the path, and the target lacks at its one path
  record Where (place : List PathStep) : Type 0 where
    pub within : length place ≤ n
    pub front : place ≡ take (length place) path
    pub absent : is_none (get c (leaf_path target path)) ≡ true

  at_place : (place : List PathStep) → (place ≡ []) ⊎ (is_list (node_at s (path_names place)) ≡ true) → place_lacks s c target path place ≡ true → Where place
  at_place place root h =
      let found = lacks s c target path place h in
      let later = found.0 in
      let lack = found.1 in
      let m = length place in
      let own = place ++ plain_steps later in
      let within : m ≤ n = not_deeper place later root lack in
      let size : length (path_names place) ≡ m = length-map place (λ (x : PathStep). x.node) in
      let front : place ≡ take m path =
      sym (take_whole place (plain_steps later)) ∙ sym (take_take m n own within) ∙ ap (take m) lack.same ∙ take_take m n path within in
      let rest : drop n own ≡ plain_steps (drop n target.names) =
      drop_append n place (plain_steps later) within ∙ drop_plain (n - m) later
      ∙ ap (λ k. plain_steps (drop (n - k) later)) (sym size)
      ∙ ap plain_steps (sym (drop_append n (path_names place) later (omega (arith, size)))) ∙ ap (λ (ns : Names). plain_steps (drop n ns)) (sym lack.names) in
      let whole : own ≡ leaf_path target path =
      sym (take-append-drop n own) ∙ ap (λ (xs : List PathStep). xs ++ drop n own) lack.same ∙ ap (λ (xs : List PathStep). take n path ++ xs) rest in
      record { within = within; front = front; absent = ap (λ (p : List PathStep). is_none (get c p)) (sym whole) ∙ lack.absent }

  abbrev lacking : List PathStep → Bool
  lacking = place_lacks s c target path

  root_above : (k : ℕ) → lacking [] ≡ true → is_lacked_above s c target path k ≡ true
  root_above zero h = h
  root_above (suc k) h = or_true (is_present s c (take (suc k) path) && lacking (take (suc k) path)) (is_lacked_above s c target path k) (root_above k h)

  found_above : (k m : ℕ) → m ≤ k → is_present s c (take m path) ≡ true → lacking (take m path) ≡ true → is_lacked_above s c target path k ≡ true
  found_above zero zero l p h = h
  found_above zero (suc m) l p h = absurd (omega arith)
  found_above (suc k) m l p h = on (nat_lt k m) refl (found_above k m)
    where
      on : (b : Bool) → nat_lt k m ≡ b → (m ≤ k → is_present s c (take m path) ≡ true → lacking (take m path) ≡ true → is_lacked_above s c target path k ≡ true)
          → ((is_present s c (take (suc k) path) && lacking (take (suc k) path)) || is_lacked_above s c target path k) ≡ true
      on true e go =
          let over = ltb-true k m e in
          let same : m ≡ suc k = omega arith in
          ap (λ b. b || is_lacked_above s c target path k)
          (subst (λ j. (is_present s c (take j path) && lacking (take j path)) ≡ true) same (and_from (is_present s c (take m path)) (lacking (take m path)) p h))
      on false e go =
          or_true (is_present s c (take (suc k) path) && lacking (take (suc k) path)) (is_lacked_above s c target path k) (go (ltb-false k m e) p h)

  abbrev rest_lacks : Bool
  rest_lacks = list_any lacking (map (λ row. row.0) (filter (is_place s) (entries c)))

  in_rows : (q : List PathStep) → is_present s c q ≡ true → lacking q ≡ true → rest_lacks ≡ true
  in_rows q p h = any_places s lacking (entries c) ∙ on (get c q) refl p
    where
      on : (o : Option Item) → get c q ≡ o → option_map_or (λ item. is_place s (q, item)) o false ≡ true → list_any (λ row. is_place s row && lacking row.0) (entries c) ≡ true
      on None e p = absurd (false≢true p)
      on (Some it) e p = any_found (λ row. is_place s row && lacking row.0) q it (entries c) (sym (get-entries c q) ∙ e) (and_from (is_place s (q, it)) (lacking q) p h)

  from_above : (k : ℕ) → is_lacked_above s c target path k ≡ true → list_any lacking (places s c) ≡ true
  from_above zero h = ap (λ b. b || rest_lacks) h
  from_above (suc k) h = on (is_present s c (take (suc k) path) && lacking (take (suc k) path)) refl h (from_above k)
    where
      on : (b : Bool) → (is_present s c (take (suc k) path) && lacking (take (suc k) path)) ≡ b → (b || is_lacked_above s c target path k) ≡ true
          → (is_lacked_above s c target path k ≡ true → list_any lacking (places s c) ≡ true) → list_any lacking (places s c) ≡ true
      on true e h go =
          let parts = and_parts (is_present s c (take (suc k) path)) (lacking (take (suc k) path)) e in
          or_true (lacking []) rest_lacks (in_rows (take (suc k) path) parts.0 parts.1)
      on false e h go = go h

  record Above : Type 0 where
    above : is_lacked_above s c target path n ≡ true
    absent : is_none (get c (leaf_path target path)) ≡ true

  present : (q : List PathStep) → ((h : (List PathStep × Item) → Bool) → ((it : Item) → is_place s (q, it) ≡ true → h (q, it) ≡ true) → list_any h (entries c) ≡ true) → is_present s c q ≡ true
  present q among =
      on (get c q) (sym (any_at f q only c)
      ∙ among f (λ it h. and_from (is_place s (q, it)) (pointwise step_eq q q) h ((path_eq_decides q q).1 refl)))
    where
      f : (List PathStep × Item) → Bool
      f r = is_place s r && pointwise step_eq r.0 q

      only : (r : List PathStep × Item) → (is_place s r && pointwise step_eq r.0 q) ≡ true → r.0 ≡ q
      only r h = (path_eq_decides r.0 q).0 (and_parts (is_place s r) (pointwise step_eq r.0 q) h).1

      on : (o : Option Item) → option_map_or (λ item. is_place s (q, item) && pointwise step_eq q q) o false ≡ true → option_map_or (λ item. is_place s (q, item)) o false ≡ true
      on None h = h
      on (Some it) h = (and_parts (is_place s (q, it)) (pointwise step_eq q q) h).0

  from_row : One (λ row. is_place s row && lacking row.0) (entries c) → Above
  from_row one =
      let row = one.row in
      let parts = and_parts (is_place s row) (lacking row.0) one.passes in
      let list = (and_parts (is_in_schema s row.0 row.1) (is_list (node_at s (path_names row.0))) parts.0).1 in
      let at = at_place row.0 (inr list) parts.1 in
      let there : is_present s c row.0 ≡ true = present row.0 (λ h every. one.among h (every row.1 parts.0)) in
      record {
        above = found_above n (length row.0) at.within (subst (λ (p : List PathStep). is_present s c p ≡ true) at.front there)
            (subst (λ (p : List PathStep). lacking p ≡ true) at.front parts.1);
        absent = at.absent;
      }

  from_places : list_any lacking (places s c) ≡ true → Above
  from_places h = on (lacking []) refl h
    where
      on : (b : Bool) → lacking [] ≡ b → (b || rest_lacks) ≡ true → Above
      on true e h = record { above = root_above n e; absent = (at_place [] (inl refl) e).absent }
      on false e h = from_row (any_one (λ row. is_place s row && lacking row.0) (entries c) (sym (any_places s lacking (entries c)) ∙ h))

  lacked_is : list_any lacking (places s c) ≡ is_lacked_above s c target path n
  lacked_is = both_ways _ _ (λ h. (from_places h).above) (from_above n)

  or_none : (a hd lk : Bool) → lk ≡ false → (a || (hd && lk)) ≡ a
  or_none true hd lk e = refl
  or_none false true lk e = e
  or_none false false lk e = refl

  -- the one leaf, or its default
  pub at_leaf_is : is_leaf_list (node_at s target.names) ≡ false → has_instance s c target text path ≡ has_at_leaf s c target text path
  at_leaf_is leaf =
      ap (λ b. b || (has_default s target.names text && list_any lacking (places s c)))
      (any_at (row_has s target text path) (leaf_path target path) (only_leaf s target before last text is leaf path) c)
      ∙ on (get c (leaf_path target path)) refl
    where
      on : (o : Option Item) → get c (leaf_path target path) ≡ o
          → (option_map_or (λ item. row_has s target text path (leaf_path target path, item)) o false || (has_default s target.names text && list_any lacking (places s c)))
          ≡ option_map_or (λ item. row_has s target text path (leaf_path target path, item)) o (has_default s target.names text && is_lacked_above s c target path n)
      on None e = ap (λ b. has_default s target.names text && b) lacked_is
      on (Some it) e =
          or_none (row_has s target text path (leaf_path target path, it)) (has_default s target.names text) (list_any lacking (places s c))
          (not_true _ (λ h. false≢true (ap is_none (sym e) ∙ (from_places h).absent)))

  -- the one entry of the leaf-list
  pub at_value_is : is_leaf_list (node_at s target.names) ≡ true
      → has_instance s c target text path
      ≡ option_map_or (λ item. row_has s target text path (named_path target before last text path, item)) (get c (named_path target before last text path)) false
  at_value_is values =
      ap (λ b. list_any (row_has s target text path) (entries c) || (b && list_any lacking (places s c))) (no_value_default s target before last text is values)
      ∙ or_false (list_any (row_has s target text path) (entries c))
      ∙ any_at (row_has s target text path) (named_path target before last text path) (only_value s target before last text is values path) c
