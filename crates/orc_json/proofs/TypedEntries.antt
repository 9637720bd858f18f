-- One entry more before the members of an object: it goes into the array of its name, or begins one.
use Rattle.std.proofs.Common.{◌≡◌, ◌≢◌, Bool, true, false, ℕ, List, [], ◌∷◌, ◌++◌, Option, Some, None, Ok, refl, sym, ap, subst, ◌∙◌, append_assoc, append-nil}
use Rattle.std.specs.Prelude.{IsTrue}
use Rattle.std.specs.List.{IsDistinct}
use Rattle.std.specs.Ordering.{is_eq, is_lt, is_le}
use Rattle.std.specs.declared.cmp.Ordering.{Ordering}
use Rattle.std.specs.declared.cmp.Ordering.TheVariants.{Less, Equal, Greater}
use Rattle.std.proofs.lemmas.Bool.{false≢true}
use Rattle.std.proofs.lemmas.Map.Text.{is_eq-slice_cmp}
use Rattle.std.proofs.lemmas.Slice.Eq.{bytes_eq-Decides}
use Rattle.serde_json.specs.Data.{Data, array, object, Items, no_items, item, Members, no_members, member}
use Rattle.orc_path.specs.Order.{text_cmp}
use Rattle.orc_path.specs.Steps.{is_name_behind}
use Rattle.orc_path.specs.declared.item.Item.TheVariants.{Entry}
use Rattle.orc_value.specs.Canon.{canon_of, same_text}
use Rattle.orc_value.specs.Json.{json_of}
use Rattle.orc_schema_nodes.specs.Schemas.{SchemaTable, path_names}
use Rattle.orc_schema_nodes.specs.declared.line.Node.{Node}
use Rattle.orc_schema_nodes.specs.declared.line.Node.TheVariants as node
use Rattle.orc_schema_nodes.specs.declared.line.ListNode.{ListNode}
use Rattle.orc_schema_nodes.specs.declared.line.ValueListNode.{ValueListNode}
use Rattle.orc_json.specs.Findings.{below, node_below, is_key_name}
use Rattle.orc_json.specs.Written.{Rows, AreValues, AreMembers, IsNode, AreEntries, is_before, are_keys, with_key_members}
use Rattle.orc_json.specs.Written.AreValues.{no_value, value}
use Rattle.orc_json.specs.Written.AreMembers.{no_member, child}
use Rattle.orc_json.specs.Written.IsNode.{container, list, leaf, leaf_list}
use Rattle.orc_json.specs.Written.AreEntries.{no_entry, entry}
use Rattle.orc_json.proofs.TypedRows.{Path}

abbrev pub first_name : Members → Option (List ℕ)
first_name no_members = None
first_name (member name d ms) = Some name

-- the name is less than the next one, where there is one; or it is that one
abbrev pub is_less : List ℕ → Option (List ℕ) → Bool
is_less name None = true
is_less name (Some other) = is_lt (text_cmp name other)

abbrev pub is_not_past : List ℕ → Option (List ℕ) → Bool
is_not_past name None = true
is_not_past name (Some other) = is_le (text_cmp name other)

pub before-is : (name : List ℕ) (ms : Members) → is_before name ms ≡ is_less name (first_name ms)
before-is name no_members = refl
before-is name (member other d ms) = refl

pub text_tied : (a b : List ℕ) → text_cmp a b ≡ Equal → a ≡ b
text_tied a b h = (bytes_eq-Decides a b).0 (sym (is_eq-slice_cmp a b) ∙ ap is_eq h)

-- members of these rows, of which the first has this name
pub record Begun (s : SchemaTable) (keys : List (List ℕ)) (at : Path) (rows : Rows) (name : List ℕ) : Type 0 where
  pub ms : Members
  pub are : AreMembers s keys at rows ms
  pub first : first_name ms ≡ Some name

-- what a node has JSON for
pub record HasNode (s : SchemaTable) (at : Path) (name : List ℕ) (rows : Rows) : Type 0 where
  pub json : Data
  pub is : IsNode s at name (node_below s at name) rows json

module _ (s : SchemaTable) (keys : List (List ℕ)) (at : Path) (name : List ℕ) (other : is_key_name keys name ≡ false) (named : is_name_behind at name ≡ true) where
  -- a node's rows before members with greater names
  pub in-front : (group rows : Rows) (ms : Members) → HasNode s at name group → AreMembers s keys at rows ms → is_less name (first_name ms) ≡ true
      → Begun s keys at (group ++ rows) name
  in-front group rows ms has are less = record {
    ms = member name has.json ms;
    are = child name has.json group rows ms other named has.is (before-is name ms ∙ less) are;
    first = refl;
  }

  module _ (group : Rows) (alone : HasNode s at name group) (joined : (rows : Rows) → HasNode s at name rows → HasNode s at name (group ++ rows)) where
    -- an entry before members, of which the first may have its name
    pub added : (rows : Rows) (ms : Members) → AreMembers s keys at rows ms → is_not_past name (first_name ms) ≡ true → Begun s keys at (group ++ rows) name
    added rows ms no_member h = in-front group rows ms alone no_member refl
    added rows ms (child found d part later rest not_key behind one before more) h =
        on (text_cmp name found) refl h
      where
        whole : AreMembers s keys at (part ++ later) (member found d rest)
        whole = child found d part later rest not_key behind one before more

        longer : (found ≡ name) → HasNode s at name (group ++ part)
        longer same = joined part (record { json = d; is = subst (λ (x : List ℕ). IsNode s at x (node_below s at x) part d) same one })

        on : (o : Ordering) → text_cmp name found ≡ o → is_le o ≡ true → Begun s keys at (group ++ (part ++ later)) name
        on Less is h = in-front group (part ++ later) (member found d rest) alone whole (ap is_lt is)
        on Equal is h =
            let same : found ≡ name = sym (text_tied name found is) in
            let grown : HasNode s at name (group ++ part) = longer same in
            record {
              ms = member name grown.json rest;
              are = subst (λ (r : Rows). AreMembers s keys at r (member name grown.json rest)) (append_assoc group part later)
                  (child name grown.json (group ++ part) later rest other named grown.is (subst (λ (x : List ℕ). IsTrue (is_before x rest)) same before) more);
              first = refl;
            }
        on Greater is h = absurd (false≢true h)

-- Entries of a list

module _ (s : SchemaTable) (at : Path) (name : List ℕ) (l : ListNode) (is : node_below s at name ≡ Some (node.List l))
    (any : l.keys ≢ []) (differ : IsDistinct same_text l.keys)
    (texts : List (List ℕ)) (inside : Rows) (ms : Members) (well : are_keys s (path_names at ++ name ∷ []) l.keys texts ≡ true)
    (within : AreMembers s l.keys (below at name texts) inside ms) where
  abbrev entry_rows : Rows
  entry_rows = (below at name texts, Entry) ∷ inside

  abbrev one_entry : Data
  one_entry = object (with_key_members s (path_names at ++ name ∷ []) l.keys texts ms)

  some_rows : (rows : Rows) → entry_rows ++ rows ≢ []
  some_rows rows e = cc

  pub entry-alone : HasNode s at name entry_rows
  entry-alone = record {
    json = array (item one_entry no_items);
    is = subst (λ (o : Option Node). IsNode s at name o entry_rows (array (item one_entry no_items))) (sym is)
        (subst (λ (r : Rows). IsNode s at name (Some (node.List l)) r (array (item one_entry no_items))) (append-nil entry_rows)
        (list l (entry_rows ++ []) (item one_entry no_items) any differ (some_rows []) (entry texts inside [] ms no_items well within no_entry)));
  }

  entries_in : (o : Option Node) (rows : Rows) (d : Data) → o ≡ Some (node.List l) → IsNode s at name o rows d
      → (ds : Items) × AreEntries s l.keys at name rows ds
  entries_in o rows d e (container part es some inside) = let not_so : ⊥ = cc in absurd not_so
  entries_in o rows d e (list k part ds one_key apart some inside) = (ds, subst (λ (x : ListNode). AreEntries s x.keys at name part ds) (same_list k l e) inside)
    where
      same_list : (k l : ListNode) → Some (node.List k) ≡ Some (node.List l) → k ≡ l
      same_list k l e = cc
  entries_in o rows d e (leaf k text no_key own) = let not_so : ⊥ = cc in absurd not_so
  entries_in o rows d e (leaf_list k part ds some inside) = let not_so : ⊥ = cc in absurd not_so

  pub entry-joined : (rows : Rows) → HasNode s at name rows → HasNode s at name (entry_rows ++ rows)
  entry-joined rows found =
      let more = entries_in (node_below s at name) rows found.json is found.is in
      record {
        json = array (item one_entry more.0);
        is = subst (λ (o : Option Node). IsNode s at name o (entry_rows ++ rows) (array (item one_entry more.0))) (sym is)
            (list l (entry_rows ++ rows) (item one_entry more.0) any differ (some_rows rows) (entry texts inside rows ms more.0 well within more.1));
      }

-- Values of a leaf-list

module _ (s : SchemaTable) (at : Path) (name : List ℕ) (l : ValueListNode) (is : node_below s at name ≡ Some (node.LeafList l))
    (text : List ℕ) (own : canon_of l.kind text ≡ Ok text) where
  abbrev value_rows : Rows
  value_rows = (below at name (text ∷ []), Entry) ∷ []

  some_values : (rows : Rows) → value_rows ++ rows ≢ []
  some_values rows e = cc

  pub value-alone : HasNode s at name value_rows
  value-alone = record {
    json = array (item (json_of l.kind text) no_items);
    is = subst (λ (o : Option Node). IsNode s at name o value_rows (array (item (json_of l.kind text) no_items))) (sym is)
        (leaf_list l value_rows (item (json_of l.kind text) no_items) (some_values []) (value text [] no_items own no_value));
  }

  values_in : (o : Option Node) (rows : Rows) (d : Data) → o ≡ Some (node.LeafList l) → IsNode s at name o rows d
      → (ds : Items) × AreValues l.kind at name rows ds
  values_in o rows d e (container part es some inside) = let not_so : ⊥ = cc in absurd not_so
  values_in o rows d e (list k part ds one_key apart some inside) = let not_so : ⊥ = cc in absurd not_so
  values_in o rows d e (leaf k own_text no_key own) = let not_so : ⊥ = cc in absurd not_so
  values_in o rows d e (leaf_list k part ds some inside) = (ds, subst (λ (x : ValueListNode). AreValues x.kind at name part ds) (same_list k l e) inside)
    where
      same_list : (k l : ValueListNode) → Some (node.LeafList k) ≡ Some (node.LeafList l) → k ≡ l
      same_list k l e = cc

  pub value-joined : (rows : Rows) → HasNode s at name rows → HasNode s at name (value_rows ++ rows)
  value-joined rows found =
      let more = values_in (node_below s at name) rows found.json is found.is in
      record {
        json = array (item (json_of l.kind text) more.0);
        is = subst (λ (o : Option Node). IsNode s at name o (value_rows ++ rows) (array (item (json_of l.kind text) more.0))) (sym is)
            (leaf_list l (value_rows ++ rows) (item (json_of l.kind text) more.0) (some_values rows) (value text rows more.0 own more.1));
      }
