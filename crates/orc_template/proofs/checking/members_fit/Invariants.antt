use Rattle.std.proofs.Common.{◌≡◌}
use Rattle.serde_json.specs.View.{members_view}
use Rattle.orc_template.specs.Templates.{members_fit}
use Rattle.orc_template.proofs.checking.members_fit.Given as goal

abbrev pub invariant-loop-name : goal.invariant-loop-name
invariant-loop-name l = members_fit (members_view l.name-iterator) ≡ members_fit (members_view l.members.entries)
