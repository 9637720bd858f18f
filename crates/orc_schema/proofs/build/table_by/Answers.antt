use Rattle.std.proofs.Common.{sym, subst, Ok}
use Rattle.orc_schema.specs.Links.{first_link_fault}
use Rattle.orc_schema.specs.Schemas.{GivesTable}
use Rattle.orc_schema.proofs.Tables.{chain_is, fault_given, table_given, in_order_at, whole_at}
use Rattle.orc_schema.proofs.build.table_by.Goals as goal

pub returns-in-Err-clause-table : goal.returns-in-Err-clause-table
returns-in-Err-clause-table c = fault_given c.args.drafts.now c.args.index.now c.requires.same c.requires.sorted _ chain_is c.in-Err.fault c.in-Err.ensures

pub of_lines-requires : goal.of_lines-requires
of_lines-requires c = in_order_at c.args.drafts.now c.args.index.now c.requires.same c.requires.sorted _ chain_is _ c.in_ok-lines-in-Ok.ensures.lines

pub returns-in_ok-of_lines-in-Ok-clause-table : goal.returns-in_ok-of_lines-in-Ok-clause-table
returns-in_ok-of_lines-in-Ok-clause-table c = subst (λ t. GivesTable (first_link_fault c.args.drafts.now) c.args.drafts.now (Ok t)) (sym c.in_ok-of_lines-in-Ok.ensures)
    (table_given c.args.drafts.now c.args.index.now c.requires.same c.requires.sorted _ chain_is _ c.in-Ok.ensures c.in_ok-lines-in-Ok.ensures.lines)

pub returns-in_ok-of_lines-in-Ok-clause-whole : goal.returns-in_ok-of_lines-in-Ok-clause-whole
returns-in_ok-of_lines-in-Ok-clause-whole c = whole_at c.args.drafts.now c.args.index.now c.requires.same c.requires.sorted _ chain_is c.in_ok-lines-in-Ok.ensures.whole
