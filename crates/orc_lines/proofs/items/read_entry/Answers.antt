use Rattle.std.proofs.Common.{option_map, sym}
use Rattle.orc_lines.proofs.KeptPaths.{still_open}
use Rattle.orc_lines.proofs.items.read_entry.Goals as goal

pub returns-clause-free : goal.returns-clause-free
returns-clause-free c = still_open c.canonical_put.result (option_map (λ lists. lists.now) c.args.lists) c.in_ok-path.path c.canonical_put.ensures.names (sym c.if-is_barred.ensures)
