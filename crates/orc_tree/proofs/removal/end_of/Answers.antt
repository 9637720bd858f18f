use Rattle.std.proofs.Common.{ap, sym, ◌∙◌, arith}
use Rattle.orc_tree.specs.Pages.{page_rows}
use Rattle.orc_tree.specs.inside.Removal.{starts_taken}
use Rattle.orc_tree.proofs.Removing.{all_kept-from}
use Rattle.orc_tree.proofs.Paged.{AreSized-some}
use Rattle.orc_tree.proofs.removal.end_of.Goals as goal

pub returns-then-not-starts_taken-clause-kept : goal.returns-then-not-starts_taken-clause-kept
returns-then-not-starts_taken-clause-kept c =
    all_kept-from page_rows c.args.path.now c.args.pages.now c.args.at c.loop-end.end c.index-pages-end.result c.requires.page c.requires.sorted (AreSized-some c.args.pages.now c.requires.sized) (omega arith) (omega arith)
    c.index-pages-end.is
    (ap (starts_taken c.args.path.now) (sym (c.as_slice.ensures ∙ ap (λ p. p.rows) c.deref.ensures)) ∙ sym c.starts_taken.ensures ∙ c.if-not-starts_taken.true)
