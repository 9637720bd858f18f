use Rattle.std.proofs.Common.{◌++◌, ap, ◌∙◌}
use Rattle.orc_tree.specs.Pages.{page_rows, rows_of, pages_of}
use Rattle.orc_tree.proofs.Maps.{Rows}
use Rattle.orc_tree.proofs.Paged.{rows_of-append}
use Rattle.orc_tree.proofs.Chaptered.{chapters_rows-pages}
use Rattle.orc_tree.proofs.walk.Rows.behind.Goals as goal

pub returns : goal.returns
returns c =
    ap rows_of c.new.ensures ∙ rows_of-append page_rows c.args.pages.now (pages_of c.args.chapters.now)
    ∙ ap (λ (r : Rows). rows_of c.args.pages.now ++ r) (chapters_rows-pages c.args.chapters.now)
