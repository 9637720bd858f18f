use Rattle.serde_json.specs.View.{members_view}
use Rattle.orc_schema_nodes.specs.Schemas.{path_names}
use Rattle.orc_json.proofs.Keyed.{KeysGoOn}
use Rattle.orc_json.proofs.texts.put_keys.Given as goal

abbrev pub invariant-loop-place : goal.invariant-loop-place
invariant-loop-place l =
    KeysGoOn l.fn.schema (path_names l.fn.list) l.fn.names l.fn.texts l.place (members_view l.fn.members.entries) (members_view l.members.entries)
