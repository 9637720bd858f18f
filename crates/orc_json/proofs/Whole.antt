-- The text of a whole configuration.
use Rattle.std.proofs.Common.{◌≡◌, ◌≤◌, ℕ, false, T, List, [], Some, sym, ap, subst, ◌∙◌, arith}
use Rattle.std.specs.Prelude.{IsTrue, IsUtf8}
use Rattle.std.specs.FinMap.{entries, entries_sorted, is_sorted}
use Rattle.serde_json.specs.Data.{Data, Members, object, depth}
use Rattle.serde_json.specs.Read.{read, max_depth}
use Rattle.serde_json.specs.Written.{compact_text, has_float}
use Rattle.orc_path.specs.Configurations.{Config, IsConfig}
use Rattle.orc_path.specs.Order.{path_cmp}
use Rattle.orc_path.specs.declared.limits.TheConstants.{PATH_STEPS}
use Rattle.orc_schema_nodes.specs.Schemas.{SchemaTable}
use Rattle.orc_json.specs.inside.Fronts.{longest, AreLaid, MakesMembers}
use Rattle.orc_json.specs.Laws.{JsonIsRead}
use Rattle.orc_json.specs.Readings.{find_all, nothing_read, outcome, IsReadAs}
use Rattle.orc_json.specs.Written.{Rows, AreMembers, HasJson, IsJsonTextOf, has_short_paths}
use Rattle.orc_json.proofs.Rebuilt.{rebuilt}
use Rattle.orc_json.proofs.Shallow.{members_float, members_shallow, all_short}
use Rattle.orc_json.proofs.WrittenRead.{members_read}

pub json_is_read : JsonIsRead
json_is_read s config ms is members =
    ap outcome (ap (λ found. find_all found nothing_read) (members_read s [] [] (entries config) ms members) ∙ rebuilt config is)

-- the members that were made are those of the configuration
pub whole_made : (s : SchemaTable) (config : Config) (rows : Rows) (left : ℕ) (made : Members) → rows ≡ entries config → left ≡ longest rows → MakesMembers s left [] rows made
    → (ms : Members) → AreMembers s [] [] (entries config) ms → made ≡ ms
whole_made s config rows left made rows_are left_is makes ms members =
    let laid : AreLaid (longest rows) rows = record {
      ascending = subst (λ (xs : Rows). T (is_sorted path_cmp xs)) (sym rows_are) (entries_sorted config);
      short = omega arith;
    } in
    makes (longest rows) laid (omega (arith, left_is)) [] ms (subst (λ (xs : Rows). AreMembers s [] [] xs ms) (sym rows_are) members)

pub text_made : (s : SchemaTable) (config : Config) (rows : Rows) (left : ℕ) (made : Members) (d : Data) (bytes : List ℕ) → rows ≡ entries config → left ≡ longest rows
    → MakesMembers s left [] rows made → d ≡ object made → (has_float d ≡ false → bytes ≡ compact_text d) → IsJsonTextOf s config bytes
text_made s config rows left made d bytes rows_are left_is makes seen text ms members =
    let d_is : d ≡ object ms = seen ∙ ap object (whole_made s config rows left made rows_are left_is makes ms members) in
    text (ap has_float d_is ∙ members_float s [] [] (entries config) ms members) ∙ ap compact_text d_is

pub text_read : (s : SchemaTable) (config : Config) (rows : Rows) (left : ℕ) (made : Members) (d : Data) (bytes : List ℕ) → rows ≡ entries config → left ≡ longest rows
    → MakesMembers s left [] rows made → d ≡ object made → IsUtf8 bytes → (depth d ≤ max_depth → read bytes ≡ Some d) → IsConfig config
    → HasJson s config → IsTrue (has_short_paths config) → IsReadAs s bytes config
text_read s config rows left made d bytes rows_are left_is makes seen utf8 back is json short =
    let ms = json.0 in
    let d_is : d ≡ object ms = seen ∙ ap object (whole_made s config rows left made rows_are left_is makes ms json.1) in
    let within : longest (entries config) ≤ PATH_STEPS = all_short PATH_STEPS (entries config) short in
    let nests = members_shallow PATH_STEPS s [] [] (entries config) ms json.1 within (omega arith) in
    let nested : depth d ≤ max_depth = subst (λ (x : Data). depth x ≤ max_depth) (sym d_is) (omega (arith, nests)) in
    record {
      json = object ms;
      text = record { utf8 = utf8; value = back nested ∙ ap Some d_is };
      gives = json_is_read s config ms is json.1;
    }
