-- How many rows at the start go on with the same name, or with the same step, after some steps; and what is built
-- of rows that have a JSON value. These serve clauses of the writer's own.
use Rattle.std.specs.Prelude.{ℕ, ◌≡◌, ◌≤◌, ◌+◌, ◌++◌, ◌∷◌, Bool, false, List, [], Option, Some, None, max, length, slice_get, nat_eq, T, if◌then◌else◌, IsTrue}
use Rattle.std.specs.FinMap.{is_sorted}
use Rattle.std.specs.Cmp.Lexicographic.{pointwise}
use Rattle.serde_json.specs.Data.{Data, object, Items, Members, put}
use Rattle.orc_path.specs.Order.{path_cmp, step_eq}
use Rattle.orc_path.specs.Steps.{PathStep}
use Rattle.orc_path.specs.declared.item.Item.{Item}
use Rattle.orc_path.specs.declared.item.Item.TheVariants.{Entry}
use Rattle.orc_schema_nodes.specs.Schemas.{SchemaTable, path_names}
use Rattle.orc_schema_nodes.specs.declared.line.Node.{Node}
use Rattle.orc_json.specs.Findings.{below, node_below}
use Rattle.orc_json.specs.Written.{Rows, AreMembers, IsNode, AreEntries, are_keys, with_key_members}

abbrev pub Row : Type 0
Row = List PathStep × Item

abbrev pub both_steps : (PathStep → PathStep → Bool) → Option PathStep → Option PathStep → Bool
both_steps same None other = false
both_steps same (Some step) None = false
both_steps same (Some step) (Some other) = same step other

-- two rows have one name, or one step, after so many steps
abbrev pub same_name : ℕ → Row → Row → Bool
same_name n row other = both_steps (λ a b. pointwise nat_eq a.node b.node) (slice_get row.0 n) (slice_get other.0 n)

abbrev pub same_step : ℕ → Row → Row → Bool
same_step n row other = both_steps step_eq (slice_get row.0 n) (slice_get other.0 n)

-- how many rows from the first on pass a test
abbrev pub passing : (Row → Bool) → Rows → ℕ
passing f [] = 0
passing f (row ∷ rows) = if f row then passing f rows + 1 else 0

-- the first row, and how many after it are like it
abbrev pub front : (Row → Row → Bool) → Rows → ℕ
front same [] = 0
front same (row ∷ rows) = passing (same row) rows + 1

-- the steps of the longest path
abbrev pub longest : Rows → ℕ
longest [] = 0
longest (row ∷ rows) = max (length row.0) (longest rows)

abbrev pub first_path : Rows → List PathStep
first_path [] = []
first_path (row ∷ rows) = row.0

-- the paths ascend, and none has more steps than so many
pub record AreLaid (bound : ℕ) (rows : Rows) : Type 0 where
  pub ascending : T (is_sorted path_cmp rows)
  pub short : longest rows ≤ bound

-- What is built, where the rows have a JSON value: the one that they have. `left` is how many steps their paths may
-- have after the first ones.
abbrev pub MakesMembers : SchemaTable → ℕ → List PathStep → Rows → Members → Type 0
MakesMembers s left at rows made = (bound : ℕ) → AreLaid bound rows → bound ≤ length at + left
    → (keys : List (List ℕ)) (ms : Members) → AreMembers s keys at rows ms → made ≡ ms

abbrev pub PutsNode : SchemaTable → ℕ → List PathStep → Rows → Members → Members → Type 0
PutsNode s left at rows old new = (bound : ℕ) → AreLaid bound rows → bound ≤ length at + 1 + left
    → (name : List ℕ) (d : Data) → IsNode s at name (node_below s at name) rows d → new ≡ put name d old

abbrev pub MakesNode : SchemaTable → ℕ → List PathStep → Option Node → Rows → Data → Type 0
MakesNode s left at node rows made = (bound : ℕ) → AreLaid bound rows → bound ≤ length at + 1 + left
    → (name : List ℕ) (d : Data) → IsNode s at name node rows d → made ≡ d

abbrev pub MakesEntries : SchemaTable → ℕ → List PathStep → List (List ℕ) → Rows → Items → Type 0
MakesEntries s left at keys rows made = (bound : ℕ) → AreLaid bound rows → bound ≤ length at + 1 + left
    → (name : List ℕ) (ds : Items) → AreEntries s keys at name rows ds → made ≡ ds

abbrev pub MakesEntry : SchemaTable → ℕ → List PathStep → List (List ℕ) → Rows → Data → Type 0
MakesEntry s left at keys rows made = (bound : ℕ) → AreLaid bound rows → bound ≤ length at + 1 + left
    → (name : List ℕ) (texts : List (List ℕ)) (inside : Rows) (ms : Members)
    → rows ≡ (below at name texts, Entry) ∷ inside → IsTrue (are_keys s (path_names at ++ name ∷ []) keys texts)
    → AreMembers s keys (below at name texts) inside ms
    → made ≡ object (with_key_members s (path_names at ++ name ∷ []) keys texts ms)
