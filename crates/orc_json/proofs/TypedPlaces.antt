-- Where the rows of a typed configuration stand, step by step.
use Rattle.std.proofs.Common.{◌≡◌, ◌≢◌, ℕ, Bool, true, false, List, [], ◌∷◌, ◌++◌, length, Option, Some, None, refl, sym, ap, subst, ◌∙◌, arith, append_assoc}
use Rattle.std.specs.Prelude.{◌&&◌, ◌||◌, nat_eq, is_some, is_none, option_and_then}
use Rattle.std.specs.List.{list_all}
use Rattle.std.specs.Option.{option_map_or}
use Rattle.std.proofs.lemmas.Bool.{and_parts, false≢true, eqb-true}
use Rattle.std.proofs.lemmas.List.{map-append, length-append}
use Rattle.orc_path.specs.Alphabet.{is_identifier, is_qualified}
use Rattle.orc_path.specs.Steps.{PathStep, is_name_behind}
use Rattle.orc_path.specs.declared.item.Item.{Item}
use Rattle.orc_path.specs.declared.item.Item.TheVariants.{Entry, Leaf as LeafItem}
use Rattle.orc_schema_nodes.specs.Schemas.{SchemaTable, path_names, node_at, kind_in, kind_at_path}
use Rattle.orc_schema_nodes.specs.declared.line.Node.{Node}
use Rattle.orc_schema_nodes.specs.declared.line.Node.TheVariants.{Container, List as ListOf, Leaf, LeafList}
use Rattle.orc_schema_nodes.specs.declared.line.LeafNode.{LeafNode}
use Rattle.orc_schema_nodes.specs.declared.line.ListNode.{ListNode}
use Rattle.orc_schema_nodes.specs.declared.line.ValueListNode.{ValueListNode}
use Rattle.orc_typed.specs.Typed.{kinds_at, step_kinds, stands_at, stand, carries, is_carried, has_canonical_keys, are_canonical_keys, are_canonical_steps, is_canonical_value, is_in_schema, is_typed}
use Rattle.orc_schema_nodes.specs.Sound.{IsSound, are_node_names, holds_nodes}
use Rattle.orc_json.proofs.TypedRows.{Path}

pub names-below : (at : Path) (st : PathStep) → path_names (at ++ st ∷ []) ≡ path_names at ++ st.node ∷ []
names-below at st = map-append (λ (step : PathStep). step.node) at (st ∷ [])

pub some_names : (xs : List (List ℕ)) (x : List ℕ) → xs ++ x ∷ [] ≢ []
some_names xs x e = omega (arith, ap length e, length-append xs (x ∷ []))

-- a step at these names stands in the schema, and its keys are canonical
pub record StepLies (s : SchemaTable) (names : List (List ℕ)) (step : PathStep) : Type 0 where
  pub stands : stands_at s names step ≡ true
  pub canonical : has_canonical_keys s names step ≡ true

-- the node of these names carries the item, with a canonical text
pub record EndLies (s : SchemaTable) (names : List (List ℕ)) (it : Item) : Type 0 where
  pub carried : option_map_or (λ node. carries node it) (node_at s names) false ≡ true
  pub value : is_canonical_value (option_and_then kind_in (node_at s names)) it ≡ true

-- steps below these names, and the item at their end
abbrev pub Lies : SchemaTable → List (List ℕ) → Path → Item → Type 0
Lies s above [] it = ⊥
Lies s above (step ∷ []) it = StepLies s (above ++ step.node ∷ []) step × EndLies s (above ++ step.node ∷ []) it
Lies s above (step ∷ next ∷ later) it =
    StepLies s (above ++ step.node ∷ []) step × Lies s (above ++ step.node ∷ []) (next ∷ later) it

pub first_lies : (s : SchemaTable) (above : List (List ℕ)) (step : PathStep) (later : Path) (it : Item)
    → Lies s above (step ∷ later) it → StepLies s (above ++ step.node ∷ []) step
first_lies s above step [] it h = h.0
first_lies s above step (next ∷ later) it h = h.0

lies_from : (s : SchemaTable) (above : List (List ℕ)) (step : PathStep) (later : Path) (it : Item)
    → stand s above (step ∷ later) ≡ true → are_canonical_steps s above (step ∷ later) ≡ true → EndLies s (above ++ path_names (step ∷ later)) it
    → Lies s above (step ∷ later) it
lies_from s above step [] it stands keys ended =
    (record { stands = (and_parts (stands_at s (above ++ step.node ∷ []) step) true stands).0; canonical = (and_parts (has_canonical_keys s (above ++ step.node ∷ []) step) true keys).0 }, ended)
lies_from s above step (next ∷ later) it stands keys ended =
    let names = above ++ step.node ∷ [] in
    let a = and_parts (stands_at s names step) (stand s names (next ∷ later)) stands in
    let b = and_parts (has_canonical_keys s names step) (are_canonical_steps s names (next ∷ later)) keys in (
      record { stands = a.0; canonical = b.0 },
      lies_from s names next later it a.1 b.1
          (subst (λ (x : List (List ℕ)). EndLies s x it) (sym (append_assoc above (step.node ∷ []) (path_names (next ∷ later)))) ended),
    )

unplain : (plain b : Bool) → plain ≡ false → (plain || b) ≡ true → b ≡ true
unplain true b e h = absurd (false≢true (sym e))
unplain false b e h = h

-- an item that may stand under a schema of modules lies there
pub typed-lies : (s : SchemaTable) (path : Path) (it : Item) → s.plain ≡ false → is_typed s path it ≡ true → Lies s [] path it
typed-lies s path it modules h =
    let parts = and_parts (is_in_schema s path it) (are_canonical_steps s [] path && is_canonical_value (kind_at_path s path) it) (unplain s.plain _ modules h) in
    let texts = and_parts (are_canonical_steps s [] path) (is_canonical_value (kind_at_path s path) it) parts.1 in
    let place = and_parts (stand s [] path) (is_carried s path it) (unplain s.plain _ modules parts.0) in
    on path place.0 texts.0 place.1 texts.1
  where
    on : (p : Path) → stand s [] p ≡ true → are_canonical_steps s [] p ≡ true → is_carried s p it ≡ true
        → is_canonical_value (kind_at_path s p) it ≡ true → Lies s [] p it
    on [] stands keys carried value = absurd (false≢true carried)
    on (step ∷ later) stands keys carried value = lies_from s [] step later it stands keys (record { carried = carried; value = value })

-- Names

last_of : (p : List ℕ → Bool) (xs : List (List ℕ)) (x : List ℕ) → list_all p (xs ++ x ∷ []) ≡ true → p x ≡ true
last_of p [] x h = (and_parts (p x) true h).0
last_of p (y ∷ ys) x h = last_of p ys x (and_parts (p y) (list_all p (ys ++ x ∷ [])) h).1

-- a node's name is one that a path can have there
pub named-behind : (at : Path) (name : List ℕ) → are_node_names (path_names at ++ name ∷ []) ≡ true → is_name_behind at name ≡ true
named-behind [] name h = (and_parts (is_qualified name) true h).0
named-behind (first ∷ later) name h =
    last_of is_identifier (path_names later) name (and_parts (is_qualified first.node) (list_all is_identifier (path_names later ++ name ∷ [])) h).1

-- What a node carries

pub leaf_carries : (l : LeafNode) (it : Item) → carries (Leaf l) it ≡ true → (text : List ℕ) × (it ≡ LeafItem text) × (l.key ≡ None)
leaf_carries l Entry h = absurd (false≢true h)
leaf_carries l (LeafItem text) h = (text, refl, none_is l.key h)
  where
    none_is : {X : Type 0} (o : Option X) → is_none o ≡ true → o ≡ None
    none_is None h = refl
    none_is (Some x) h = absurd (false≢true h)

pub container_carries : (it : Item) → carries Container it ≡ true → ⊥
container_carries Entry h = false≢true h
container_carries (LeafItem text) h = false≢true h

pub list_carries : (l : ListNode) (it : Item) → carries (ListOf l) it ≡ true → it ≡ Entry
list_carries l Entry h = refl
list_carries l (LeafItem text) h = absurd (false≢true h)

pub leaf_list_carries : (l : ValueListNode) (it : Item) → carries (LeafList l) it ≡ true → it ≡ Entry
leaf_list_carries l Entry h = refl
leaf_list_carries l (LeafItem text) h = absurd (false≢true h)

-- a step has as many keys as its node has kinds
pub keys-counted : (s : SchemaTable) (names : List (List ℕ)) (step : PathStep) (node : Node) → node_at s names ≡ Some node → StepLies s names step
    → length step.keys ≡ length (step_kinds s names node)
keys-counted s names step node is lies =
    let parts = and_parts (is_some (node_at s names)) (nat_eq (length step.keys) (length (kinds_at s names))) lies.stands in
    eqb-true (length step.keys) (length (kinds_at s names)) parts.1
    ∙ ap (λ (o : Option Node). length (option_map_or (step_kinds s names) o [])) is

pub keys-canonical : (s : SchemaTable) (names : List (List ℕ)) (step : PathStep) (node : Node) → node_at s names ≡ Some node → StepLies s names step
    → are_canonical_keys (step_kinds s names node) step.keys ≡ true
keys-canonical s names step node is lies =
    ap (λ (o : Option Node). are_canonical_keys (option_map_or (step_kinds s names) o []) step.keys) (sym is) ∙ lies.canonical

pub some_node : (s : SchemaTable) (names : List (List ℕ)) (step : PathStep) → StepLies s names step → is_some (node_at s names) ≡ true
some_node s names step lies = (and_parts (is_some (node_at s names)) (nat_eq (length step.keys) (length (kinds_at s names))) lies.stands).0

-- nothing stands below a node that holds none
pub none_below : (s : SchemaTable) → IsSound s → (names : List (List ℕ)) (step : PathStep) → names ≢ [] → holds_nodes (node_at s names) ≡ false
    → StepLies s (names ++ step.node ∷ []) step → ⊥
none_below s sound names step some holds lies = on (node_at s (names ++ step.node ∷ [])) refl (some_node s (names ++ step.node ∷ []) step lies)
  where
    on : (o : Option Node) → node_at s (names ++ step.node ∷ []) ≡ o → is_some o ≡ true → ⊥
    on None is h = false≢true h
    on (Some node) is h = false≢true (sym holds ∙ sound.parents names step.node node some is)
