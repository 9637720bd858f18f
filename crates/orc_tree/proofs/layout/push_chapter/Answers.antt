use Rattle.std.proofs.Common.{◌≡◌, ◌==◌, ◌≤◌, ◌++◌, ◌∷◌, [], length, ap, sym, subst, ◌∙◌}
use Rattle.std.proofs.lemmas.List.Elements.{All-push}
use Rattle.orc_tree.specs.Pages.{chapter_pages}
use Rattle.orc_tree.specs.inside.Places.{IsLaid, AreLaid}
use Rattle.orc_tree.proofs.Chaptered.{IsLaid-made, some_from_test}
use Rattle.orc_tree.proofs.layout.push_chapter.Goals as goal

pub returns-clause-laid : goal.returns-clause-laid
returns-clause-laid c =
    let chapter = c.in_ok-new.field-0 in
    let pages_are : chapter_pages chapter ≡ c.args.pages.items = ap (λ x. x.pages) c.in_ok-new.ensures.ok ∙ c.from_vec-pages.ensures in
    let some : 1 ≤ length c.args.pages.items = some_from_test c.args.pages.items c.is_empty.result (c.is_empty.ensures ∙ ap (λ n. n == 0) c.args.pages.ok.0) c.if-is_empty.false in
    let items : c.push.new.self.items ≡ c.args.chapters.now.items ++ chapter ∷ [] = c.in_ok-push.ensures.items in
    subst AreLaid (sym items) (All-push IsLaid c.args.chapters.now.items chapter c.requires.laid (IsLaid-made chapter c.args.pages.items pages_are c.requires.sized some))
