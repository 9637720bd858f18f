use Rattle.std.proofs.Common.{◌≡◌}
use Rattle.serde_json.specs.View.{members_view}
use Rattle.orc_template.specs.Templates.{only_blocks}
use Rattle.orc_template.proofs.checking.only_blocks.Given as goal

abbrev pub invariant-loop-name : goal.invariant-loop-name
invariant-loop-name l = only_blocks (members_view l.name-iterator) ≡ only_blocks (members_view l.members.entries)
