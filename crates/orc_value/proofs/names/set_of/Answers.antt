use Rattle.std.proofs.Common.{true, rules}
use Rattle.std.specs.String.{string_bytes}
use Rattle.std.proofs.lemmas.Map.Text.{btree_set_updates_text}
use Rattle.orc_value.proofs.Growing.{one_more}
use Rattle.orc_value.proofs.names.set_of.Goals as goal

pub loop-name-preserved : goal.loop-name-preserved
loop-name-preserved c = λ text.
    let key = string_bytes c.in_ok-from_str.field-0 in
    let grown = btree_set_updates_text key c.loop-name.set c.insert.new.self true c.in_ok-insert.ensures.updates text in
    one_more c.args.names.now c.loop-name.name-index key text _ _ grown (c.loop-name.invariant text) (search rules) (search rules)
