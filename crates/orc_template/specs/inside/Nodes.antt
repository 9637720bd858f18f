-- A node, and a member, with its JSON.
use Rattle.std.specs.Prelude.{ℕ, List, [], Result}
use Rattle.serde_json.specs.Data.{Data}
use Rattle.orc_path.specs.Steps.{PathStep}
use Rattle.orc_schema_nodes.specs.Schemas.{SchemaTable}
use Rattle.orc_json.specs.Findings.{below, node_below}
use Rattle.orc_template.specs.Values.{Scene}
use Rattle.orc_template.specs.Writing.{Ended, node_done, member_done, object_done, list_done}
use Rattle.orc_template.specs.declared.writing.Writing.{Writing}

abbrev pub node_of_name : Scene → SchemaTable → List PathStep → List ℕ → Data → Writing → Result Writing Ended
node_of_name scene s at name d w =
    node_done scene at name d (object_done scene s [] (below at name []) d)
    (λ names. list_done scene s names at name d) (node_below s at name) w

abbrev pub member_at_name : Scene → SchemaTable → List (List ℕ) → List PathStep → List ℕ → Data → Writing
    → Result Writing Ended
member_at_name scene s keys at name d w =
    member_done scene s keys at name d (object_done scene s [] (below at name []) d)
    (λ names. list_done scene s names at name d) w
