use Rattle.std.proofs.Common.{◌≡◌, Some, option_map, sym, ◌∙◌}
use Rattle.orc_lines.proofs.CanonicalItems.{carries_same, value_known}
use Rattle.orc_lines.proofs.KeptPaths.{still_open}
use Rattle.orc_lines.proofs.items.read_leaf.Goals as goal

pub returns-clause-lawful : goal.returns-clause-lawful
returns-clause-lawful c =
    let value = c.in-Some-value.value in
    let found : c.in_ok-value.value ≡ Some value = (let is = c.in-Some-value.is in cc) in
    c.canonical_put.ensures.lawful
    (carries_same c.args.schema.now c.in-Some.path value _ ∙ sym c.if-not-can_carry.ensures)
    (value_known c.in_ok-value.value value c.in_ok-value.ensures.lawful found)

pub returns-clause-free : goal.returns-clause-free
returns-clause-free c = still_open c.canonical_put.result (option_map (λ lists. lists.now) c.args.lists) c.in-Some.path c.canonical_put.ensures.names (sym c.if-is_barred.ensures)
