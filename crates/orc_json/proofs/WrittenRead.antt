-- What is written of rows states just these rows.
use Rattle.std.proofs.Common.{◌≡◌, ◌≢◌, ℕ, Bool, true, false, cond, List, [], ◌∷◌, ◌++◌, map, Option, Some, None, refl, sym, ap, subst, ◌∙◌}
use Rattle.std.specs.Prelude.{is_some, ◌||◌}
use Rattle.std.specs.List.{list_all, IsDistinct}
use Rattle.std.specs.Cmp.Lexicographic.{slice_cmp}
use Rattle.std.specs.Ordering.{nat_cmp, is_eq, match_ordering}
use Rattle.std.specs.declared.cmp.Ordering.{Ordering}
use Rattle.std.specs.declared.cmp.Ordering.TheVariants.{Less, Equal, Greater}
use Rattle.std.proofs.lemmas.Bool.{and_parts, and_from}
use Rattle.std.proofs.lemmas.Map.Text.{is_eq-slice_cmp}
use Rattle.std.proofs.lemmas.Slice.Eq.{bytes_eq-Decides}
use Rattle.std.proofs.lemmas.List.{map-append}
use Rattle.serde_json.specs.Data.{Data, Items, Members, no_members, member, put}
use Rattle.orc_path.specs.Steps.{PathStep, is_name_behind}
use Rattle.orc_path.specs.declared.item.Item.TheVariants.{Entry}
use Rattle.orc_value.specs.declared.kind.Kind.{Kind}
use Rattle.orc_value.specs.Canon.{same_text}
use Rattle.orc_value.specs.Json.{json_of, canon_of_json}
use Rattle.orc_schema_nodes.specs.Schemas.{SchemaTable, path_names}
use Rattle.orc_schema_nodes.specs.declared.line.Node.{Node}
use Rattle.orc_json.specs.Findings.{Finding, states, breaks, below, node_below, key_kind, entry_object, entry_value, values, leaf_value, is_key_name, node_found, member_found, object_at, members_at, list_at, entries_at, strange_name}
use Rattle.orc_json.specs.declared.fault.TheConstants.{MEMBER}
use Rattle.orc_json.specs.Written.{Rows, AreValues, AreMembers, IsNode, AreEntries, with_key_member, with_key_members}
use Rattle.orc_json.specs.Written.AreValues.{no_value, value}
use Rattle.orc_json.specs.Written.AreMembers.{no_member, child}
use Rattle.orc_json.specs.Written.IsNode.{container, list, leaf, leaf_list}
use Rattle.orc_json.specs.Written.AreEntries.{no_entry, entry}
use Rattle.orc_json.proofs.JsonBack.{json_back}
use Rattle.orc_json.proofs.TypedKeys.{keys-found}

abbrev pub stated : Rows → List Finding
stated rows = map (λ row. states row.0 row.1) rows

pub values_read : (kind : Kind) (at : List PathStep) (name : List ℕ) (rows : Rows) (ds : Items) → AreValues kind at name rows ds → values kind at name ds ≡ stated rows
values_read kind at name rows ds no_value = refl
values_read kind at name rows ds (value text later es own rest) =
    ap (λ v. entry_value at name v ++ values kind at name es) (json_back kind text own)
    ∙ ap (λ r. states (below at name (text ∷ [])) Entry ∷ r) (values_read kind at name later es rest)

-- Names among keys

skipped : (s : SchemaTable) (keys : List (List ℕ)) (at : List PathStep) (name : List ℕ) (d : Data) (ms : Members) → is_key_name keys name ≡ true
    → members_at s keys at (member name d ms) ≡ members_at s keys at ms
skipped s keys at name d ms among =
    ap (λ t. cond t [] (cond (is_name_behind at name) (node_found at name d (object_at s [] (below at name []) d) (λ names. list_at s names at name d) (node_below s at name)) (strange_name at)) ++ members_at s keys at ms) among

-- what a name of a key has states nothing
put_among : (s : SchemaTable) (keys : List (List ℕ)) (at : List PathStep) (name : List ℕ) (d : Data) (ms : Members) → is_key_name keys name ≡ true
    → members_at s keys at (put name d ms) ≡ members_at s keys at ms
put_among s keys at name d no_members among = skipped s keys at name d no_members among
put_among s keys at name d (member other e ms) among = on (slice_cmp nat_cmp name other) refl (put_among s keys at name d ms among)
  where
    on : (o : Ordering) → slice_cmp nat_cmp name other ≡ o → members_at s keys at (put name d ms) ≡ members_at s keys at ms
        → members_at s keys at (match_ordering o (member name d (member other e ms)) (member other d ms) (member other e (put name d ms))) ≡ members_at s keys at (member other e ms)
    on Less is rest = skipped s keys at name d (member other e ms) among
    on Equal is rest =
        let same : name ≡ other = (bytes_eq-Decides name other).0 (sym (is_eq-slice_cmp name other) ∙ ap is_eq is) in
        let too = subst (λ (n : List ℕ). is_key_name keys n ≡ true) same among in
        skipped s keys at other d ms too ∙ sym (skipped s keys at other e ms too)
    on Greater is rest =
        ap (λ r. member_found s keys at other e (object_at s [] (below at other []) e) (λ names. list_at s names at other e) ++ r) rest

with_key_among : (s : SchemaTable) (keys : List (List ℕ)) (at : List PathStep) (kind : Option Kind) (name text : List ℕ) (ms : Members) → is_key_name keys name ≡ true
    → members_at s keys at (with_key_member kind name text ms) ≡ members_at s keys at ms
with_key_among s keys at None name text ms among = refl
with_key_among s keys at (Some kind) name text ms among = put_among s keys at name (json_of kind text) ms among

keys_state_nothing : (s : SchemaTable) (keys : List (List ℕ)) (at : List PathStep) (names : List (List ℕ)) (some texts : List (List ℕ)) (ms : Members)
    → list_all (is_key_name keys) some ≡ true → members_at s keys at (with_key_members s names some texts ms) ≡ members_at s keys at ms
keys_state_nothing s keys at names [] texts ms h = refl
keys_state_nothing s keys at names (key ∷ later) [] ms h = refl
keys_state_nothing s keys at names (key ∷ later) (text ∷ texts) ms h =
    let parts = and_parts (is_key_name keys key) (list_all (is_key_name keys) later) h in
    keys_state_nothing s keys at names later texts (with_key_member (key_kind s names key) key text ms) parts.1
    ∙ with_key_among s keys at (key_kind s names key) key text ms parts.0

pub same_itself : (text : List ℕ) → same_text text text ≡ true
same_itself text = (bytes_eq-Decides text text).1 refl

among_more : (name : List ℕ) (keys some : List (List ℕ)) → list_all (is_key_name keys) some ≡ true → list_all (is_key_name (name ∷ keys)) some ≡ true
among_more name keys [] h = refl
among_more name keys (x ∷ xs) h =
    let parts = and_parts (is_key_name keys x) (list_all (is_key_name keys) xs) h in
    and_from _ _ (or_right (same_text x name) (is_key_name keys x) parts.0) (among_more name keys xs parts.1)
  where
    or_right : (a b : Bool) → b ≡ true → (a || b) ≡ true
    or_right true b e = refl
    or_right false b e = e

all_among : (keys : List (List ℕ)) → list_all (is_key_name keys) keys ≡ true
all_among [] = refl
all_among (key ∷ keys) = and_from _ _ (ap (λ t. t || is_key_name keys key) (same_itself key)) (among_more key keys keys (all_among keys))

abbrev found : SchemaTable → List PathStep → List ℕ → Data → Option Node → List Finding
found s at name d o = node_found at name d (object_at s [] (below at name []) d) (λ names. list_at s names at name d) o

behind : (rows later : Rows) (xs ys : List Finding) → xs ≡ stated rows → ys ≡ stated later → xs ++ ys ≡ stated (rows ++ later)
behind rows later xs ys e f = ap (λ x. x ++ ys) e ∙ ap (λ y. stated rows ++ y) f ∙ sym (map-append (λ row. states row.0 row.1) rows later)

mutual
  pub members_read : (s : SchemaTable) (keys : List (List ℕ)) (at : List PathStep) (rows : Rows) (ms : Members)
      → AreMembers s keys at rows ms → members_at s keys at ms ≡ stated rows
  members_read s keys at rows ms no_member = refl
  members_read s keys at rows ms (child name d part later rest other named one before more) =
      ap (λ t. cond t [] (cond (is_name_behind at name) (found s at name d (node_below s at name)) (strange_name at)) ++ members_at s keys at rest) other
      ∙ ap (λ t. cond t (found s at name d (node_below s at name)) (strange_name at) ++ members_at s keys at rest) named
      ∙ behind part later _ _ (node_read s at name (node_below s at name) part d one) (members_read s keys at later rest more)

  node_read : (s : SchemaTable) (at : List PathStep) (name : List ℕ) (o : Option Node) (rows : Rows) (d : Data)
      → IsNode s at name o rows d → found s at name d o ≡ stated rows
  node_read s at name o rows d (container part ms some inside) = members_read s [] (below at name []) part ms inside
  node_read s at name o rows d (list l part ds any differ some inside) = entries_read s l.keys at name any differ part ds inside
  node_read s at name o rows d (leaf l text no_key own) =
      ap (λ k. cond (is_some k) (breaks (below at name []) MEMBER ∷ []) (leaf_value (below at name []) (canon_of_json l.kind (json_of l.kind text)))) no_key
      ∙ ap (leaf_value (below at name [])) (json_back l.kind text own)
  node_read s at name o rows d (leaf_list l part ds some inside) = values_read l.kind at name part ds inside

  entries_read : (s : SchemaTable) (keys : List (List ℕ)) (at : List PathStep) (name : List ℕ) → keys ≢ [] → IsDistinct same_text keys
      → (rows : Rows) (ds : Items) → AreEntries s keys at name rows ds → entries_at s keys at name ds ≡ stated rows
  entries_read s keys at name any differ rows ds no_entry = refl
  entries_read s keys at name any differ rows ds (entry texts inside later ms es well within more) =
      let names = path_names at ++ name ∷ [] in
      behind ((below at name texts, Entry) ∷ inside) later _ _
      (ap (λ o. entry_object at name o (λ place. members_at s keys place (with_key_members s names keys texts ms)))
      (keys-found s names keys texts ms any differ well)
      ∙ ap (λ r. states (below at name texts) Entry ∷ r)
      (keys_state_nothing s keys (below at name texts) names keys texts ms (all_among keys) ∙ members_read s keys (below at name texts) inside ms within))
      (entries_read s keys at name any differ later es more)
