-- The JSON of a configuration has no float, and nests no deeper than its paths allow.
use Rattle.std.proofs.Common.{◌≡◌, ◌≢◌, ◌≤◌, ℕ, ◌+◌, ◌*◌, max, Bool, true, false, cond, ℤ, pos, negsuc, List, [], ◌∷◌, ◌++◌, length, Option, Some, None, Ordering, Less, Equal, Greater, nat_cmp, refl, ap, ◌∙◌, length-append, arith}
use Rattle.std.specs.Prelude.{◌||◌, nat_le, unwrap_or}
use Rattle.std.specs.List.{list_all}
use Rattle.std.specs.Cmp.Lexicographic.{slice_cmp}
use Rattle.std.specs.Ordering.{match_ordering}
use Rattle.std.proofs.lemmas.Bool.{and_parts}
use Rattle.std.proofs.lemmas.Bool.Decides.{nat_tests}
use Rattle.serde_json.specs.Data.{Data, string, number, Items, Members, no_members, member, put, depth, items_depth, members_depth}
use Rattle.serde_json.specs.Find.{of_integer}
use Rattle.serde_json.specs.Written.{has_float, items_have_float, members_have_float}
use Rattle.orc_path.specs.Steps.{PathStep}
use Rattle.orc_path.specs.declared.item.Item.TheVariants.{Entry}
use Rattle.orc_value.specs.Integers.{int_value}
use Rattle.orc_value.specs.Json.{json_of}
use Rattle.orc_value.specs.declared.kind.Kind.{Kind}
use Rattle.orc_value.specs.declared.kind.Kind.TheVariants.{Int, Decimal, Str, Bool as Boolean, Enum, Empty}
use Rattle.orc_schema_nodes.specs.Schemas.{SchemaTable, path_names}
use Rattle.orc_schema_nodes.specs.declared.line.Node.{Node}
use Rattle.orc_json.specs.Findings.{below, node_below, key_kind}
use Rattle.orc_json.specs.inside.Fronts.{longest}
use Rattle.orc_json.specs.Written.{Rows, AreValues, AreMembers, IsNode, AreEntries, with_key_member, with_key_members}
use Rattle.orc_json.specs.Written.AreValues.{no_value, value}
use Rattle.orc_json.specs.Written.AreMembers.{no_member, child}
use Rattle.orc_json.specs.Written.IsNode.{container, list, leaf, leaf_list}
use Rattle.orc_json.specs.Written.AreEntries.{no_entry, entry}
use Rattle.orc_json.proofs.Parted.{longest_front, longest_back}
use Rattle.orc_json.proofs.Under.{Each, IsUnder, node_under, node_some, length-below}

-- No float -----------------------------------------------------------------------------------------------------------

integer_float : (z : ℤ) → has_float (number (of_integer z)) ≡ false
integer_float (pos n) = refl
integer_float (negsuc n) = refl

quoted_float : (quoted : Bool) (text : List ℕ) (z : ℤ) → has_float (cond quoted (string text) (number (of_integer z))) ≡ false
quoted_float true text z = refl
quoted_float false text z = integer_float z

json_float : (kind : Kind) (text : List ℕ) → has_float (json_of kind text) ≡ false
json_float (Int kind) text = quoted_float kind.quoted text (unwrap_or (int_value text) (pos 0))
json_float (Decimal n) text = refl
json_float (Str lengths) text = refl
json_float Boolean text = refl
json_float (Enum names) text = refl
json_float Empty text = refl

neither : (a b : Bool) → a ≡ false → b ≡ false → (a || b) ≡ false
neither a b e f = ap (λ t. t || b) e ∙ f

first_no : (a b : Bool) → (a || b) ≡ false → a ≡ false
first_no true b h = h
first_no false b h = refl

second_no : (a b : Bool) → (a || b) ≡ false → b ≡ false
second_no true b h = cc
second_no false b h = h

put_float : (name : List ℕ) (d : Data) (ms : Members) → has_float d ≡ false → members_have_float ms ≡ false → members_have_float (put name d ms) ≡ false
put_float name d no_members h k = neither (has_float d) false h refl
put_float name d (member other e ms) h k = on (slice_cmp nat_cmp name other) (put_float name d ms h (second_no (has_float e) (members_have_float ms) k))
  where
    on : (o : Ordering) → members_have_float (put name d ms) ≡ false
        → members_have_float (match_ordering o (member name d (member other e ms)) (member other d ms) (member other e (put name d ms))) ≡ false
    on Less rest = neither (has_float d) (has_float e || members_have_float ms) h k
    on Equal rest = neither (has_float d) (members_have_float ms) h (second_no (has_float e) (members_have_float ms) k)
    on Greater rest = neither (has_float e) (members_have_float (put name d ms)) (first_no (has_float e) (members_have_float ms) k) rest

key_float : (kind : Option Kind) (key text : List ℕ) (ms : Members) → members_have_float ms ≡ false → members_have_float (with_key_member kind key text ms) ≡ false
key_float None key text ms h = h
key_float (Some kind) key text ms h = put_float key (json_of kind text) ms (json_float kind text) h

keys_float : (s : SchemaTable) (names keys texts : List (List ℕ)) (ms : Members) → members_have_float ms ≡ false → members_have_float (with_key_members s names keys texts ms) ≡ false
keys_float s names [] texts ms h = h
keys_float s names (key ∷ keys) [] ms h = h
keys_float s names (key ∷ keys) (text ∷ texts) ms h =
    keys_float s names keys texts (with_key_member (key_kind s names key) key text ms) (key_float (key_kind s names key) key text ms h)

values_float : (kind : Kind) (at : List PathStep) (name : List ℕ) (rows : Rows) (ds : Items) → AreValues kind at name rows ds → items_have_float ds ≡ false
values_float kind at name rows ds no_value = refl
values_float kind at name rows ds (value text later es own rest) =
    neither (has_float (json_of kind text)) (items_have_float es) (json_float kind text) (values_float kind at name later es rest)

mutual
  pub members_float : (s : SchemaTable) (keys : List (List ℕ)) (at : List PathStep) (rows : Rows) (ms : Members) → AreMembers s keys at rows ms → members_have_float ms ≡ false
  members_float s keys at rows ms no_member = refl
  members_float s keys at rows ms (child name d part later rest other named one before more) =
      neither (has_float d) (members_have_float rest) (node_float s at name (node_below s at name) part d one) (members_float s keys at later rest more)

  node_float : (s : SchemaTable) (at : List PathStep) (name : List ℕ) (o : Option Node) (rows : Rows) (d : Data) → IsNode s at name o rows d → has_float d ≡ false
  node_float s at name o rows d (container part ms some inside) = members_float s [] (below at name []) part ms inside
  node_float s at name o rows d (list l part ds any differ some inside) = entries_float s l.keys at name part ds inside
  node_float s at name o rows d (leaf l text no_key own) = json_float l.kind text
  node_float s at name o rows d (leaf_list l part ds some inside) = values_float l.kind at name part ds inside

  entries_float : (s : SchemaTable) (keys : List (List ℕ)) (at : List PathStep) (name : List ℕ) (rows : Rows) (ds : Items) → AreEntries s keys at name rows ds → items_have_float ds ≡ false
  entries_float s keys at name rows ds no_entry = refl
  entries_float s keys at name rows ds (entry texts inside later ms es well within more) =
      neither (members_have_float (with_key_members s (path_names at ++ name ∷ []) keys texts ms)) (items_have_float es)
      (keys_float s (path_names at ++ name ∷ []) keys texts ms (members_float s keys (below at name texts) inside ms within))
      (entries_float s keys at name later es more)

-- How deep it nests --------------------------------------------------------------------------------------------------

quoted_depth : (quoted : Bool) (text : List ℕ) (z : ℤ) → depth (cond quoted (string text) (number (of_integer z))) ≤ 1
quoted_depth true text z = omega arith
quoted_depth false text z = omega arith

json_depth : (kind : Kind) (text : List ℕ) → depth (json_of kind text) ≤ 1
json_depth (Int kind) text = quoted_depth kind.quoted text (unwrap_or (int_value text) (pos 0))
json_depth (Decimal n) text = omega arith
json_depth (Str lengths) text = omega arith
json_depth Boolean text = omega arith
json_depth (Enum names) text = omega arith
json_depth Empty text = omega arith

put_depth : (n : ℕ) (name : List ℕ) (d : Data) (ms : Members) → depth d ≤ n → members_depth ms ≤ n → members_depth (put name d ms) ≤ n
put_depth n name d no_members h k = omega (arith, h)
put_depth n name d (member other e ms) h k = on (slice_cmp nat_cmp name other) (put_depth n name d ms h (omega (arith, k)))
  where
    on : (o : Ordering) → members_depth (put name d ms) ≤ n
        → members_depth (match_ordering o (member name d (member other e ms)) (member other d ms) (member other e (put name d ms))) ≤ n
    on Less rest = omega (arith, h, k)
    on Equal rest = omega (arith, h, k)
    on Greater rest = omega (arith, rest, k)

key_depth : (n : ℕ) (kind : Option Kind) (key text : List ℕ) (ms : Members) → 1 ≤ n → members_depth ms ≤ n → members_depth (with_key_member kind key text ms) ≤ n
key_depth n None key text ms h k = k
key_depth n (Some kind) key text ms h k = let one = json_depth kind text in put_depth n key (json_of kind text) ms (omega (arith, one, h)) k

keys_depth : (n : ℕ) (s : SchemaTable) (names keys texts : List (List ℕ)) (ms : Members) → 1 ≤ n → members_depth ms ≤ n → members_depth (with_key_members s names keys texts ms) ≤ n
keys_depth n s names [] texts ms h k = k
keys_depth n s names (key ∷ keys) [] ms h k = k
keys_depth n s names (key ∷ keys) (text ∷ texts) ms h k =
    keys_depth n s names keys texts (with_key_member (key_kind s names key) key text ms) h (key_depth n (key_kind s names key) key text ms h k)

values_depth : (kind : Kind) (at : List PathStep) (name : List ℕ) (rows : Rows) (ds : Items) → AreValues kind at name rows ds → items_depth ds ≤ 1
values_depth kind at name rows ds no_value = omega arith
values_depth kind at name rows ds (value text later es own rest) =
    let one = json_depth kind text in
    let others = values_depth kind at name later es rest in
    omega (arith, one, others)

long_under : (at : List PathStep) (name : List ℕ) (rows : Rows) → rows ≢ [] → Each (IsUnder at name) rows → length at + 1 ≤ longest rows
long_under at name [] some h = absurd (some refl)
long_under at name (row ∷ rows) some h =
    let long : length row.0 ≡ length (below at name h.0.keys ++ h.0.more) = ap length h.0.is in
    let both : length (below at name h.0.keys ++ h.0.more) ≡ length (below at name h.0.keys) + length h.0.more = length-append (below at name h.0.keys) h.0.more in
    let one = length-below at name h.0.keys in
    omega (arith, long, both, one)

mutual
  pub members_shallow : (n : ℕ) (s : SchemaTable) (keys : List (List ℕ)) (at : List PathStep) (rows : Rows) (ms : Members) → AreMembers s keys at rows ms
      → longest rows ≤ n → length at ≤ n → members_depth ms + 2 * length at ≤ 2 * n + 1
  members_shallow n s keys at rows ms no_member h k = omega (arith, k)
  members_shallow n s keys at rows ms (child name d part later rest other named one before more) h k =
      let front = longest_front part later in
      let back = longest_back part later in
      let long = long_under at name part (node_some s at name (node_below s at name) part d one) (node_under s at name (node_below s at name) part d one) in
      let here = node_shallow n s at name (node_below s at name) part d one (omega (arith, front, h)) (omega (arith, long, front, h)) in
      let there = members_shallow n s keys at later rest more (omega (arith, back, h)) k in
      omega (arith, here, there)

  node_shallow : (n : ℕ) (s : SchemaTable) (at : List PathStep) (name : List ℕ) (o : Option Node) (rows : Rows) (d : Data) → IsNode s at name o rows d
      → longest rows ≤ n → length at + 1 ≤ n → depth d + 2 * length at ≤ 2 * n + 1
  node_shallow n s at name o rows d (container part ms some inside) h k =
      let long = length-below at name [] in
      let inner = members_shallow n s [] (below at name []) part ms inside h (omega (arith, long, k)) in
      omega (arith, inner, long)
  node_shallow n s at name o rows d (list l part ds any differ some inside) h k =
      let inner = entries_shallow n s l.keys at name part ds inside h k in
      omega (arith, inner)
  node_shallow n s at name o rows d (leaf l text no_key own) h k = let one = json_depth l.kind text in omega (arith, one, k)
  node_shallow n s at name o rows d (leaf_list l part ds some inside) h k = let one = values_depth l.kind at name part ds inside in omega (arith, one, k)

  entries_shallow : (n : ℕ) (s : SchemaTable) (keys : List (List ℕ)) (at : List PathStep) (name : List ℕ) (rows : Rows) (ds : Items) → AreEntries s keys at name rows ds
      → longest rows ≤ n → length at + 1 ≤ n → items_depth ds + 2 * length at ≤ 2 * n
  entries_shallow n s keys at name rows ds no_entry h k = omega (arith, k)
  entries_shallow n s keys at name rows ds (entry texts inside later ms es well within more) h k =
      let front = longest_front ((below at name texts, Entry) ∷ inside) later in
      let back = longest_back ((below at name texts, Entry) ∷ inside) later in
      let long = length-below at name texts in
      let inner = members_shallow n s keys (below at name texts) inside ms within (omega (arith, front, h)) (omega (arith, long, k)) in
      let keyed = keys_depth (max 1 (members_depth ms)) s (path_names at ++ name ∷ []) keys texts ms (omega arith) (omega arith) in
      let others = entries_shallow n s keys at name later es more (omega (arith, back, h)) k in
      omega (arith, inner, long, keyed, others, k)

short_so : (a n : ℕ) → nat_le a n ≡ true → a ≤ n
short_so a n h = grind (arith, nat_tests)

pub all_short : (n : ℕ) (rows : Rows) → list_all (λ row. nat_le (length row.0) n) rows ≡ true → longest rows ≤ n
all_short n [] h = omega arith
all_short n (row ∷ rows) h =
    let parts = and_parts (nat_le (length row.0) n) (list_all (λ r. nat_le (length r.0) n) rows) h in
    let first = short_so (length row.0) n parts.0 in
    let rest = all_short n rows parts.1 in
    omega (arith, first, rest)
