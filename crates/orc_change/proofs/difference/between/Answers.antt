use Rattle.std.proofs.Common.{◌≡◌, true, List, ◌++◌, ap, sym, subst, ◌∙◌}
use Rattle.std.specs.List.{list_all}
use Rattle.std.specs.FinMap.{entries}
use Rattle.orc_tree.specs.Changes.{applied, change_fits}
use Rattle.orc_tree.specs.declared.change.Change.{Change}
use Rattle.orc_tree.specs.Pages.{chapters_rows}
use Rattle.orc_tree.proofs.Maps.{Rows}
use Rattle.orc_tree.proofs.Chaptered.{chapters_rows-pages}
use Rattle.orc_change.specs.Differences.{difference, removals, new_puts}
use Rattle.orc_change.proofs.Exact.{applied-difference, difference_fits, difference-same, difference-none}
use Rattle.orc_change.proofs.difference.between.Goals as goal

pub returns-clause-exact : goal.returns-clause-exact
returns-clause-exact c =
    let from = c.args.from.now in
    let to = c.args.to.now in
    c.in_ok-push_puts.ensures
    ∙ ap (λ (cs : List Change). cs ++ new_puts (chapters_rows c.chapters-2.result.now) from) (c.in_ok-push_removals.ensures ∙ ap (λ (cs : List Change). cs ++ removals (chapters_rows c.chapters.result.now) to) c.new-changes.ensures)
    ∙ ap (λ (es : Rows). removals es to ++ new_puts (chapters_rows c.chapters-2.result.now) from) (sym (chapters_rows-pages c.chapters.result.now) ∙ c.chapters.ensures.rows)
    ∙ ap (λ (es : Rows). removals (entries from) to ++ new_puts es from) (sym (chapters_rows-pages c.chapters-2.result.now) ∙ c.chapters-2.ensures.rows)

pub returns-clause-leads : goal.returns-clause-leads
returns-clause-leads c =
    ap (λ (cs : List Change). applied cs c.args.from.now) (returns-clause-exact c) ∙ applied-difference c.args.from.now c.args.to.now c.chapters-2.ensures.config

pub returns-clause-equal : goal.returns-clause-equal
returns-clause-equal c =
    let from = c.args.from.now in
    let to = c.args.to.now in (
      λ none. difference-none from to c.chapters-2.ensures.config (sym (returns-clause-exact c) ∙ none),
      λ same. returns-clause-exact c ∙ ap (difference from) (sym same) ∙ difference-same from,
    )

pub returns-clause-fits : goal.returns-clause-fits
returns-clause-fits c =
    subst (λ (cs : List Change). list_all change_fits cs ≡ true) (sym (returns-clause-exact c)) (difference_fits c.args.from.now c.args.to.now c.chapters-2.ensures.config)
