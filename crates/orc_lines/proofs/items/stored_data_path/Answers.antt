use Rattle.std.proofs.Common.{sym, ◌∙◌}
use Rattle.orc_lines.proofs.KeptPaths.{own_names}
use Rattle.orc_lines.proofs.items.stored_data_path.Goals as goal

pub returns-clause-names : goal.returns-clause-names
returns-clause-names c = own_names c.args.schema.now c.args.path.now c.in-Some.own (sym c.in_ok-own.ensures ∙ c.in-Some.is)
