use Rattle.std.proofs.Common.{sym, subst}
use Rattle.std.specs.List.Sorted.{IsPermutation}
use Rattle.orc_schema.specs.inside.Indexes.{lent, IsIndex}
use Rattle.orc_schema.proofs.build.table_of.Goals as goal

pub table_by-requires-clause-sorted : goal.table_by-requires-clause-sorted
table_by-requires-clause-sorted c = subst IsIndex (sym c.as_slice.ensures.value) c.in_ok-index.ensures.0

pub table_by-requires-clause-same : goal.table_by-requires-clause-same
table_by-requires-clause-same c = subst (λ ds. IsPermutation c.args.drafts.now (lent ds)) (sym c.as_slice.ensures.value) c.in_ok-index.ensures.1
