use Rattle.std.proofs.Common.{◌≡◌, [], drop, length}
use Rattle.std.specs.Prelude.{IsTrue}
use Rattle.std.specs.List.{list_all}
use Rattle.serde_json.specs.View.{view}
use Rattle.orc_path.specs.Alphabet.{is_key}
use Rattle.orc_schema_nodes.specs.Schemas.{path_names}
use Rattle.orc_template.specs.Values.{more_keys}
use Rattle.orc_template.specs.inside.Machine.{scene}
use Rattle.orc_template.proofs.values.key_texts.Given as goal

-- the keys that are left, after those so far
abbrev pub invariant-loop-name : goal.invariant-loop-name
invariant-loop-name g l =
    (more_keys (scene (g.V.DataView.viewed l.view) l.here) l.schema (path_names l.list) (view l.entry) l.keys (drop l.name-index l.names) l.reads.reads
    ≡ more_keys (scene (g.V.DataView.viewed l.view) l.here) l.schema (path_names l.list) (view l.entry) [] l.names l.fn.reads.reads)
    × IsTrue (list_all is_key l.keys) × (length l.keys ≡ l.name-index)
