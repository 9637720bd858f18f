-- An item in canonical form may stand where it is stored.
use Rattle.std.proofs.Common.{◌≡◌, ℕ, Bool, true, false, not, ◌&&◌, ◌||◌, List, [], ◌∷◌, Option, Some, None, IfSome, IsTrue, is_some, refl, ap, subst, ◌∙◌}
use Rattle.std.specs.Option.{option_map_or}
use Rattle.std.proofs.lemmas.Bool.{and_from, and_parts, false≢true}
use Rattle.orc_path.specs.Alphabet.{is_value}
use Rattle.orc_path.specs.Items.{fits}
use Rattle.orc_path.specs.Limits.{is_long_path, is_long_value}
use Rattle.orc_path.specs.Steps.{PathStep, is_path}
use Rattle.orc_path.specs.declared.item.Item.{Item}
use Rattle.orc_path.specs.declared.item.Item.TheVariants.{Entry, Leaf}
use Rattle.orc_schema_nodes.specs.Schemas.{SchemaTable, node_at, path_names}
use Rattle.orc_schema_nodes.specs.declared.line.Node.{Node}
use Rattle.orc_schema_nodes.specs.declared.line.Node.TheVariants as node
use Rattle.orc_typed.specs.Typed.{canonical_item, canonical_path, carries, is_carried, is_in_schema, is_typed, stand}
use Rattle.orc_typed.specs.Laws.{AreCanonicalOf, CanonicalIsTyped, CanonicalKeeps, KeepsPlace, has_plain_text}
use Rattle.orc_decls.specs.Calls.{is_item_at, is_lawful_item, is_put}
use Rattle.orc_lines.specs.Items.{can_carry, is_long_item}

so_not : (b : Bool) → b ≡ false → not b ≡ true
so_not b h = ap not h

lawful_item : (item : Item) → has_plain_text item ≡ true → is_long_item item ≡ false → is_lawful_item item ≡ true
lawful_item Entry plain short = refl
lawful_item (Leaf text) plain short = and_from (is_value text) (not (is_long_value text)) plain (so_not (is_long_value text) short)

pub canonical_lawful : (s : SchemaTable) (path own : List PathStep) (item own_item : Item) → CanonicalIsTyped → CanonicalKeeps
    → canonical_path s path ≡ Some own → canonical_item s path item ≡ Some own_item
    → can_carry s path item ≡ true → has_plain_text item ≡ true → is_path own ≡ true → is_long_path own ≡ false → is_long_item own_item ≡ false
    → is_put s (record { path = own; item = own_item }) ≡ true
canonical_lawful s path own item own_item typed keeps at it carry plain is short short_item =
    let are : AreCanonicalOf s path item own own_item = record { at = at; item = it } in
    let parts = and_parts (fits path item) (is_in_schema s path item) carry in
    let kept : KeepsPlace s path item own own_item = keeps s path own item own_item are in
    let lawful = lawful_item own_item (kept.value plain) short_item in
    and_from (is_item_at own own_item) (is_typed s own own_item)
    (and_from (is_path own && not (is_long_path own) && is_lawful_item own_item) (fits own own_item)
    (and_from (is_path own && not (is_long_path own)) (is_lawful_item own_item)
    (and_from (is_path own) (not (is_long_path own)) is (so_not (is_long_path own) short)) lawful) (kept.fit ∙ parts.0))
    (typed s path own item own_item parts.1 are)

-- whether a path can carry a leaf doesn't depend on the leaf's text
fits_same : (path : List PathStep) (a b : List ℕ) → fits path (Leaf a) ≡ fits path (Leaf b)
fits_same [] a b = refl
fits_same (first ∷ later) a b = refl

carries_text : (o : Option Node) (a b : List ℕ) → option_map_or (λ (n : Node). carries n (Leaf a)) o false ≡ option_map_or (λ (n : Node). carries n (Leaf b)) o false
carries_text None a b = refl
carries_text (Some node.Container) a b = refl
carries_text (Some (node.List l)) a b = refl
carries_text (Some (node.Leaf l)) a b = refl
carries_text (Some (node.LeafList l)) a b = refl

carried_same : (s : SchemaTable) (path : List PathStep) (a b : List ℕ) → is_carried s path (Leaf a) ≡ is_carried s path (Leaf b)
carried_same s [] a b = refl
carried_same s (first ∷ later) a b = carries_text (node_at s (path_names (first ∷ later))) a b

schema_same : (s : SchemaTable) (path : List PathStep) (a b : List ℕ) → is_in_schema s path (Leaf a) ≡ is_in_schema s path (Leaf b)
schema_same s path a b = ap (λ (x : Bool). s.plain || (stand s [] path && x)) (carried_same s path a b)

pub carries_same : (s : SchemaTable) (path : List PathStep) (a b : List ℕ) → can_carry s path (Leaf a) ≡ can_carry s path (Leaf b)
carries_same s path a b =
    ap (λ (x : Bool). x && is_in_schema s path (Leaf a)) (fits_same path a b) ∙ ap (λ (x : Bool). fits path (Leaf b) && x) (schema_same s path a b)

-- what is known of a value that is there
pub value_known : (o : Option (List ℕ)) (v : List ℕ) → IfSome o (λ x. IsTrue (is_value x)) → o ≡ Some v → is_value v ≡ true
value_known None v h is = absurd (false≢true (ap (λ (o : Option (List ℕ)). is_some o) is))
value_known (Some x) v h is = let same = ap (λ (o : Option (List ℕ)). option_map_or (λ (t : List ℕ). t) o []) is in subst (λ (y : List ℕ). is_value y ≡ true) same h
