use Rattle.std.proofs.Common.{sym, []}
use Rattle.std.specs.Prelude.{not}
use Rattle.orc_types.specs.Paths.{is_up}
use Rattle.orc_statements.proofs.Marks.{at_place, none_place}
use Rattle.orc_statements.proofs.reference.count_ups.Goals as goal

pub returns-in-Some-clause-count : goal.returns-in-Some-clause-count
returns-in-Some-clause-count c = (at_place (λ part. not (is_up part)) c.args.parts.now c.in-Some.place c.in-Some.ensures).1

pub returns-in-None-clause-count : goal.returns-in-None-clause-count
returns-in-None-clause-count c = sym (none_place (λ part. not (is_up part)) c.args.parts.now [] c.in-None.ensures)
