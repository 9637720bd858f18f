use Rattle.std.proofs.Common.{sym}
use Rattle.orc_lines.proofs.KeptPaths.{still_free}
use Rattle.orc_lines.proofs.items.read_data_path.Goals as goal

pub returns-clause-free : goal.returns-clause-free
returns-clause-free c = still_free c.stored_data_path.result c.args.lists.now c.in_ok-path.path c.stored_data_path.ensures.names (sym c.if-is_barred.ensures)
