use Rattle.std.proofs.Common.{◌≡◌, ◌++◌, drop}
use Rattle.std.specs.Prelude.{option_map, IsTrue}
use Rattle.std.specs.List.{list_all}
use Rattle.serde_json.specs.View.{view}
use Rattle.orc_path.specs.Alphabet.{is_key}
use Rattle.orc_schema_nodes.specs.Schemas.{path_names}
use Rattle.orc_json.specs.Findings.{key_texts}
use Rattle.orc_json.proofs.keys.key_texts.Given as goal

abbrev pub invariant-loop-name : goal.invariant-loop-name
invariant-loop-name l =
    (option_map (λ ts. l.keys ++ ts) (key_texts l.fn.schema (path_names l.fn.list) (view l.fn.entry) (drop l.name-index l.fn.names))
    ≡ key_texts l.fn.schema (path_names l.fn.list) (view l.fn.entry) l.fn.names) × IsTrue (list_all is_key l.keys)
