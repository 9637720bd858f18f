use Rattle.std.proofs.Common.{ap, sym, ◌∙◌, arith}
use Rattle.orc_tree.specs.Pages.{rows_of, chapter_rows}
use Rattle.orc_tree.specs.inside.Removal.{starts_taken}
use Rattle.orc_tree.proofs.Removing.{all_kept-from}
use Rattle.orc_tree.proofs.Paged.{Pages}
use Rattle.orc_tree.proofs.Chaptered.{AreLaid-some}
use Rattle.orc_tree.proofs.chapter_removal.end_of_run.Goals as goal

pub returns-then-not-first_taken-clause-kept : goal.returns-then-not-first_taken-clause-kept
returns-then-not-first_taken-clause-kept c =
    all_kept-from chapter_rows c.args.path.now c.args.chapters.now c.args.at c.loop-end.end c.index-chapters-end.result c.requires.place c.requires.sorted (AreLaid-some c.args.chapters.now c.requires.laid) (omega arith) (omega arith)
    c.index-chapters-end.is
    (ap (λ (ps : Pages). starts_taken c.args.path.now (rows_of ps)) (sym (c.as_slice.ensures ∙ ap (λ x. x.pages) c.deref.ensures)) ∙ sym c.first_taken.ensures ∙ c.if-not-first_taken.true)
