use Rattle.std.proofs.Common.{sym, ◌∙◌, ap, subst}
use Rattle.std.specs.List.Sorted.{IsPermutation}
use Rattle.orc_schema.specs.inside.Indexes.{lent, names_of, climbs}
use Rattle.orc_schema.proofs.Indexed.{climbs_sorted}
use Rattle.orc_schema.proofs.index.index_of.Goals as goal

pub returns-in-true : goal.returns-in-true
returns-in-true c = (climbs_sorted (names_of (lent c.in_ok-all.all.items)) (ap (λ ds. climbs (names_of (lent ds))) (sym c.as_slice.ensures.value) ∙ sym c.ascends.ensures ∙ c.in-true.is), subst (λ ds. IsPermutation ds (lent c.in_ok-all.all.items)) c.in_ok-references.ensures c.in_ok-all.ensures)
