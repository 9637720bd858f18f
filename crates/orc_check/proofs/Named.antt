-- Where the target of a leafref is the one key of a list, one row alone can have the text as its value.
use Rattle.std.proofs.Common.{◌≡◌, ℕ, Bool, true, false, ◌&&◌, ◌||◌, List, [], ◌∷◌, ◌++◌, length, take, drop, map, refl, sym, ap, subst, ◌∙◌, arith}
use Rattle.std.specs.Prelude.{Option, Some, None, is_some, is_none, option_and_then, if◌then◌else◌}
use Rattle.std.specs.Option.{option_map_or}
use Rattle.std.specs.List.{list_any}
use Rattle.std.specs.Cmp.Lexicographic.{bytes_decides}
use Rattle.std.proofs.lemmas.Bool.{false≢true, and_parts}
use Rattle.orc_path.specs.Steps.{PathStep}
use Rattle.orc_path.specs.declared.item.Item.{Item}
use Rattle.orc_path.specs.declared.item.Item.TheVariants as item
use Rattle.orc_value.specs.Canon.{same_text}
use Rattle.orc_schema_nodes.specs.Names.{same_names}
use Rattle.orc_schema_nodes.specs.Schemas.{SchemaTable, path_names, node_at}
use Rattle.orc_schema_nodes.specs.declared.line.Node.{Node}
use Rattle.orc_schema_nodes.specs.declared.line.Node.TheVariants.{Container, List as ListOf, Leaf, LeafList}
use Rattle.orc_schema_nodes.specs.declared.line.Target.{Target}
use Rattle.orc_typed.specs.Typed.{stand, carries, is_carried, is_in_schema}
use Rattle.orc_check.specs.Validity.{last_keys, key_values, entry_values, item_values, values_of, plain_steps, shares, is_value_of, row_has, default_in, has_default}
use Rattle.orc_check.specs.inside.Named.{is_key_leaf, is_list_of, IsOwnKey, named_path}
use Rattle.orc_check.proofs.Ended.{Names, names_are, same_ends, at_list, ended}

-- ---- what rows hold

or_true : (b c : Bool) → c ≡ true → (b || c) ≡ true
or_true true c e = refl
or_true false c e = e

-- a key's names are the list's and its own
pub key_of : (list : Names) (keys texts : List (List ℕ)) (names : Names) (text : List ℕ) → list_any (is_value_of names text) (key_values list keys texts) ≡ true
    → (key : List ℕ) × (names ≡ list ++ key ∷ []) × (list_any (λ own. same_text own key) keys ≡ true)
key_of list [] texts names text h = absurd (false≢true h)
key_of list (k ∷ ks) [] names text h = absurd (false≢true h)
key_of list (k ∷ ks) (t ∷ ts) names text h = on (same_names (list ++ k ∷ []) names) refl (key_of list ks ts names text) h
  where
    here : (key : List ℕ) → k ≡ key → list_any (λ own. same_text own key) (k ∷ ks) ≡ true
    here key e = ap (λ b. b || list_any (λ own. same_text own key) ks) ((bytes_decides k key).1 e)

    later : (key : List ℕ) → list_any (λ own. same_text own key) ks ≡ true → list_any (λ own. same_text own key) (k ∷ ks) ≡ true
    later key e = or_true (same_text k key) (list_any (λ own. same_text own key) ks) e

    on : (b : Bool) → same_names (list ++ k ∷ []) names ≡ b
        → (list_any (is_value_of names text) (key_values list ks ts) ≡ true → (key : List ℕ) × (names ≡ list ++ key ∷ []) × (list_any (λ own. same_text own key) ks ≡ true))
        → ((b && same_text t text) || list_any (is_value_of names text) (key_values list ks ts)) ≡ true
        → (key : List ℕ) × (names ≡ list ++ key ∷ []) × (list_any (λ own. same_text own key) (k ∷ ks) ≡ true)
    on true e go h = (k, sym (names_are _ _ e), here k refl)
    on false e go h = let found = go h in (found.0, found.1, later found.0 found.2)

one_key : (list : Names) (key : List ℕ) (texts : List (List ℕ)) (names : Names) (text : List ℕ) → list_any (is_value_of names text) (key_values list (key ∷ []) texts) ≡ true
    → length texts ≡ 1 → texts ≡ text ∷ []
one_key list key [] names text h one = absurd (omega arith)
one_key list key (t ∷ u ∷ ts) names text h one = absurd (omega arith)
one_key list key (t ∷ []) names text h one =
    let held = and_parts (same_names (list ++ key ∷ []) names) (same_text t text) (or_none _ h) in
    ap (λ (x : List ℕ). x ∷ []) ((bytes_decides t text).0 held.1)
  where
    or_none : (b : Bool) → (b || false) ≡ true → b ≡ true
    or_none true h = refl
    or_none false h = h

pub value_of : (own : Names) (texts : List (List ℕ)) (names : Names) (text : List ℕ)
    → list_any (is_value_of names text) (map (λ key. record { names = own; text = key }) texts) ≡ true → own ≡ names
value_of own [] names text h = absurd (false≢true h)
value_of own (t ∷ ts) names text h = on (same_names own names) refl (value_of own ts names text) h
  where
    on : (b : Bool) → same_names own names ≡ b
        → (list_any (is_value_of names text) (map (λ key. record { names = own; text = key }) ts) ≡ true → own ≡ names)
        → ((b && same_text t text) || list_any (is_value_of names text) (map (λ key. record { names = own; text = key }) ts)) ≡ true → own ≡ names
    on true e go h = names_are own names e
    on false e go h = go h

some_none : {X : Type 0} (o : Option X) → is_some o ≡ true → is_none o ≡ true → ⊥
some_none None h k = false≢true h
some_none (Some x) h k = false≢true k

module _ (s : SchemaTable) (target : Target) (before : Names) (list key text : List ℕ) (is : IsOwnKey s target before list key) where
  -- a row that holds the text as a value of the target is an entry of the list, with it as its key
  record HoldsKey (p : List PathStep) : Type 0 where
    pub names : path_names p ≡ before ++ list ∷ []
    pub own : length (last_keys p) ≡ 1 → last_keys p ≡ text ∷ []

  leaf_node : (o : Option Node) (t : List ℕ) → is_key_leaf o ≡ true → option_map_or (λ node. carries node (item.Leaf t)) o false ≡ true → ⊥
  leaf_node None t h c = false≢true h
  leaf_node (Some Container) t h c = false≢true h
  leaf_node (Some (ListOf l)) t h c = false≢true h
  leaf_node (Some (Leaf l)) t h c = some_none l.key h c
  leaf_node (Some (LeafList l)) t h c = false≢true h

  in_leaf : (p : List PathStep) (t : List ℕ) → is_carried s p (item.Leaf t) ≡ true → path_names p ≡ target.names → ⊥
  in_leaf [] t c e = false≢true c
  in_leaf (x ∷ xs) t c e =
      leaf_node (node_at s target.names) t is.leaf (subst (λ (ns : Names). option_map_or (λ node. carries node (item.Leaf t)) (node_at s ns) false ≡ true) e c)

  in_entry : (p : List PathStep) (o : Option Node) → node_at s (path_names p) ≡ o
      → list_any (is_value_of target.names text) (option_map_or (entry_values (path_names p) (last_keys p)) o []) ≡ true → HoldsKey p
  in_entry p None e h = absurd (false≢true h)
  in_entry p (Some Container) e h = absurd (false≢true h)
  in_entry p (Some (Leaf l)) e h = absurd (false≢true h)
  in_entry p (Some (LeafList l)) e h =
      let same : path_names p ≡ target.names = value_of (path_names p) (last_keys p) target.names text h in
      absurd (false≢true (ap is_key_leaf (sym e ∙ ap (node_at s) same) ∙ is.leaf))
  in_entry p (Some (ListOf l)) e h =
      let found = key_of (path_names p) l.keys (last_keys p) target.names text h in
      let ends = same_ends (path_names p) (before ++ list ∷ []) found.0 key (sym found.1 ∙ is.names) in
      let keys : l.keys ≡ key ∷ [] = names_are l.keys (key ∷ []) (ap (is_list_of key) (sym e ∙ ap (node_at s) ends.0) ∙ is.node) in
      record {
        names = ends.0;
        own = one_key (path_names p) key (last_keys p) target.names text
            (subst (λ (ks : List (List ℕ)). list_any (is_value_of target.names text) (key_values (path_names p) ks (last_keys p)) ≡ true) keys h);
      }

  holds : (p : List PathStep) (it : Item) → is_carried s p it ≡ true → list_any (is_value_of target.names text) (item_values s p it) ≡ true → HoldsKey p
  holds p item.Entry c h = in_entry p (node_at s (path_names p)) refl h
  holds p (item.Leaf t) c h = absurd (in_leaf p t c (first (same_names (path_names p) target.names) refl h))
    where
      first : (b : Bool) → same_names (path_names p) target.names ≡ b → ((b && same_text t text) || false) ≡ true → path_names p ≡ target.names
      first true e h = names_are _ _ e
      first false e h = absurd (false≢true h)

  named : (p path : List PathStep) → shares target.shared p path ≡ true → stand s [] p ≡ true → HoldsKey p → p ≡ named_path target before list text path
  named p path sh st held =
      let n = target.shared in
      let end = ended s n before list is.shared is.down path p sh st held.names in
      let one : length end.last.keys ≡ 1 = at_list s (before ++ list ∷ []) key end.last is.node end.stands in
      let keys : end.last.keys ≡ text ∷ [] = sym end.keys ∙ held.own (ap length end.keys ∙ one) in
      let is_last : end.last ≡ record { node = list; keys = text ∷ [] } =
      ap (λ (m : List ℕ). record { node = m; keys = end.last.keys }) end.name ∙ ap (λ (ks : List (List ℕ)). record { node = list; keys = ks }) keys in
      end.parts ∙ ap (λ (x : PathStep). take n path ++ (plain_steps (drop n before) ++ x ∷ [])) is_last

  -- one row alone can have the text as a value of the target
  pub only : (path : List PathStep) (row : List PathStep × Item) → row_has s target text path row ≡ true → row.0 ≡ named_path target before list text path
  only path row h =
      let parts = and_parts (shares target.shared row.0 path) (list_any (is_value_of target.names text) (values_of s row)) h in
      on (is_in_schema s row.0 row.1) refl parts.0 parts.1
    where
      on : (b : Bool) → is_in_schema s row.0 row.1 ≡ b → shares target.shared row.0 path ≡ true
          → list_any (is_value_of target.names text) (if b then item_values s row.0 row.1 else []) ≡ true → row.0 ≡ named_path target before list text path
      on false e sh h = absurd (false≢true h)
      on true e sh h =
          let typed : (stand s [] row.0 && is_carried s row.0 row.1) ≡ true = ap (λ b. b || (stand s [] row.0 && is_carried s row.0 row.1)) (sym is.typed) ∙ e in
          let places = and_parts (stand s [] row.0) (is_carried s row.0 row.1) typed in
          named row.0 path sh places.0 (holds row.0 row.1 places.1 h)

  -- nor has its leaf a default that counts
  pub no_default : has_default s target.names text ≡ false
  no_default = on (node_at s target.names) is.leaf
    where
      none : (o : Option ℕ) (d : Option (List ℕ)) → is_some o ≡ true → option_map_or (same_text text) (if is_none o then d else None) false ≡ false
      none None d h = absurd (false≢true h)
      none (Some k) d h = refl

      on : (o : Option Node) → is_key_leaf o ≡ true → option_map_or (same_text text) (option_and_then default_in o) false ≡ false
      on None h = refl
      on (Some Container) h = refl
      on (Some (ListOf l)) h = refl
      on (Some (LeafList l)) h = refl
      on (Some (Leaf l)) h = none l.key l.default h
