use Rattle.std.proofs.Common.{◌≡◌, ◌++◌, take, drop, ap, sym, subst, ◌∙◌}
use Rattle.std.specs.List.{splice}
use Rattle.orc_tree.specs.Pages.{chapter_rows, chapters_rows}
use Rattle.orc_tree.specs.inside.Places.{AreLaid}
use Rattle.orc_tree.proofs.Maps.{Rows}
use Rattle.orc_tree.proofs.Paged.{rows_of-splice}
use Rattle.orc_tree.proofs.Chaptered.{Chapters, AreLaid-splice}
use Rattle.orc_tree.proofs.Spliced.{spliced}
use Rattle.orc_tree.proofs.layout.replace_chapters.Goals as goal

put_in : (c : goal.After-drop-branch) → c.splice.new.self.items ≡ splice c.args.chapters.now.items c.args.from c.args.to c.in_ok-new.new.items
put_in c =
    let told = c.in_ok-splice.ensures.items in
    told.4 ∙ ap (splice c.args.chapters.now.items c.args.from c.args.to) (spliced told.0 c.in_ok-new.new.items told.1 told.2.0 told.2.3 told.3)

pub returns-clause-ok : goal.returns-clause-ok
returns-clause-ok c =
    ap (λ (cs : Chapters). chapters_rows cs) (put_in c) ∙ rows_of-splice chapter_rows c.args.chapters.now.items c.in_ok-new.new.items c.args.from c.args.to
    ∙ ap (λ (r : Rows). chapters_rows (take c.args.from c.args.chapters.now.items) ++ (r ++ chapters_rows (drop c.args.to c.args.chapters.now.items))) c.in_ok-new.ensures.rows

pub returns-clause-laid : goal.returns-clause-laid
returns-clause-laid c =
    subst AreLaid (sym (put_in c)) (AreLaid-splice c.args.chapters.now.items c.in_ok-new.new.items c.args.from c.args.to c.requires.laid c.in_ok-new.ensures.laid)
