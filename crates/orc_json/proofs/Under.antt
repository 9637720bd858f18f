-- The rows of a JSON value stand below its path.
use Rattle.std.proofs.Common.{◌≡◌, ◌≢◌, ℕ, ◌+◌, List, [], ◌∷◌, ◌++◌, length, take, slice_get, Some, Option, refl, sym, ap, ◌∙◌, append_assoc, append-nil, arith}
use Rattle.std.proofs.Math.Seq.{take-append_seam}
use Rattle.serde_json.specs.Data.{Data, Items, Members}
use Rattle.orc_path.specs.Steps.{PathStep}
use Rattle.orc_path.specs.declared.item.Item.TheVariants.{Entry}
use Rattle.orc_value.specs.declared.kind.Kind.{Kind}
use Rattle.orc_schema_nodes.specs.Schemas.{SchemaTable}
use Rattle.orc_schema_nodes.specs.declared.line.Node.{Node}
use Rattle.orc_json.specs.Findings.{below, node_below}
use Rattle.orc_json.specs.inside.Fronts.{Row}
use Rattle.orc_json.specs.Written.{Rows, AreValues, AreMembers, IsNode, AreEntries}
use Rattle.orc_json.specs.Written.AreValues.{no_value, value}
use Rattle.orc_json.specs.Written.AreMembers.{no_member, child}
use Rattle.orc_json.specs.Written.IsNode.{container, list, leaf, leaf_list}
use Rattle.orc_json.specs.Written.AreEntries.{no_entry, entry}

abbrev pub Each : {X : Type 0} → (X → Type 0) → List X → Type 0
Each P [] = Unit {0}
Each P (x ∷ xs) = P x × Each P xs

pub each-append : {X : Type 0} (P : X → Type 0) (xs ys : List X) → Each P xs → Each P ys → Each P (xs ++ ys)
each-append P [] ys h k = k
each-append P (x ∷ xs) ys h k = (h.0, each-append P xs ys h.1 k)

pub each_so : {X : Type 0} (P Q : X → Type 0) → ((x : X) → P x → Q x) → (xs : List X) → Each P xs → Each Q xs
each_so P Q f [] h = tt
each_so P Q f (x ∷ xs) h = (f x h.0, each_so P Q f xs h.1)

abbrev pub step_of : List ℕ → List (List ℕ) → PathStep
step_of name keys = record { node = name; keys = keys }

-- a row at or below a name below a path
pub record IsUnder (at : List PathStep) (name : List ℕ) (row : Row) : Type 0 where
  pub keys : List (List ℕ)
  pub more : List PathStep
  pub is : row.0 ≡ below at name keys ++ more

-- a row below a path
abbrev pub IsInside : List PathStep → Row → Type 0
IsInside at row = (name : List ℕ) × IsUnder at name row

abbrev pub under_next : (at : List PathStep) (name : List ℕ) (keys : List (List ℕ)) (row : Row) → IsInside (below at name keys) row → IsUnder at name row
under_next at name keys row h = record {
  keys = keys;
  more = step_of h.0 h.1.keys ∷ h.1.more;
  is = h.1.is ∙ append_assoc (below at name keys) (step_of h.0 h.1.keys ∷ []) h.1.more;
}

stands : (at : List PathStep) (name : List ℕ) (keys : List (List ℕ)) → below at name keys ≡ below at name keys ++ []
stands at name keys = sym (append-nil (below at name keys))

pub values_under : (kind : Kind) (at : List PathStep) (name : List ℕ) (rows : Rows) (ds : Items) → AreValues kind at name rows ds → Each (IsUnder at name) rows
values_under kind at name rows ds no_value = tt
values_under kind at name rows ds (value text later es own rest) =
    (record { keys = text ∷ []; more = []; is = stands at name (text ∷ []) }, values_under kind at name later es rest)

mutual
  pub members_under : (s : SchemaTable) (keys : List (List ℕ)) (at : List PathStep) (rows : Rows) (ms : Members)
      → AreMembers s keys at rows ms → Each (IsInside at) rows
  members_under s keys at rows ms no_member = tt
  members_under s keys at rows ms (child name d part later rest other named one before more) =
      each-append (IsInside at) part later
      (each_so (IsUnder at name) (IsInside at) (λ row u. (name, u)) part (node_under s at name (node_below s at name) part d one))
      (members_under s keys at later rest more)

  pub node_under : (s : SchemaTable) (at : List PathStep) (name : List ℕ) (o : Option Node) (rows : Rows) (d : Data)
      → IsNode s at name o rows d → Each (IsUnder at name) rows
  node_under s at name o rows d (container part ms some inside) =
      each_so (IsInside (below at name [])) (IsUnder at name) (under_next at name []) part (members_under s [] (below at name []) part ms inside)
  node_under s at name o rows d (list l part ds any differ some inside) = entries_under s l.keys at name part ds inside
  node_under s at name o rows d (leaf l text no_key own) = (record { keys = []; more = []; is = stands at name [] }, tt)
  node_under s at name o rows d (leaf_list l part ds some inside) = values_under l.kind at name part ds inside

  pub entries_under : (s : SchemaTable) (keys : List (List ℕ)) (at : List PathStep) (name : List ℕ) (rows : Rows) (ds : Items)
      → AreEntries s keys at name rows ds → Each (IsUnder at name) rows
  entries_under s keys at name rows ds no_entry = tt
  entries_under s keys at name rows ds (entry texts inside later ms es well within more) =
      each-append (IsUnder at name) ((below at name texts, Entry) ∷ inside) later
      (record { keys = texts; more = []; is = stands at name texts }, each_so (IsInside (below at name texts)) (IsUnder at name) (under_next at name texts) inside (members_under s keys (below at name texts) inside ms within))
      (entries_under s keys at name later es more)

-- a node has a row
pub node_some : (s : SchemaTable) (at : List PathStep) (name : List ℕ) (o : Option Node) (rows : Rows) (d : Data) → IsNode s at name o rows d → rows ≢ []
node_some s at name o rows d (container part ms some inside) = some
node_some s at name o rows d (list l part ds any differ some inside) = some
node_some s at name o rows d (leaf l text no_key own) = λ h. cc
node_some s at name o rows d (leaf_list l part ds some inside) = some

pub slice_get-seam : (xs : List PathStep) (y : PathStep) (ys : List PathStep) → slice_get (xs ++ y ∷ ys) (length xs) ≡ Some y
slice_get-seam [] y ys = refl
slice_get-seam (x ∷ xs) y ys = slice_get-seam xs y ys

-- the step of a row after a path
pub step_under : (at : List PathStep) (name : List ℕ) (row : Row) (u : IsUnder at name row) → slice_get row.0 (length at) ≡ Some (step_of name u.keys)
step_under at name row u =
    ap (λ p. slice_get p (length at)) (u.is ∙ append_assoc at (step_of name u.keys ∷ []) u.more) ∙ slice_get-seam at (step_of name u.keys) u.more

pub length-below : (at : List PathStep) (name : List ℕ) (keys : List (List ℕ)) → length (below at name keys) ≡ length at + 1
length-below [] name keys = refl
length-below (s ∷ at) name keys = let e = length-below at name keys in omega (arith, e)

pub steps_under : (at : List PathStep) (name : List ℕ) (row : Row) (u : IsUnder at name row) → take (length at + 1) row.0 ≡ below at name u.keys
steps_under at name row u =
    ap (take (length at + 1)) u.is ∙ ap (λ n. take n (below at name u.keys ++ u.more)) (sym (length-below at name u.keys))
    ∙ take-append_seam (below at name u.keys) u.more
