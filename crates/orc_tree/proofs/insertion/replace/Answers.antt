use Rattle.std.proofs.Common.{◌≡◌, ◌++◌, take, drop, ap, sym, subst, ◌∙◌}
use Rattle.std.specs.List.{splice}
use Rattle.orc_tree.specs.Pages.{page_rows, rows_of, AreSized}
use Rattle.orc_tree.proofs.Maps.{Rows}
use Rattle.orc_tree.proofs.Paged.{rows_of-splice, AreSized-splice}
use Rattle.orc_tree.proofs.Spliced.{spliced}
use Rattle.orc_tree.proofs.insertion.replace.Goals as goal

laid : (c : goal.After-drop-branch) → c.splice.new.self.items ≡ splice c.args.pages.now.items c.args.from c.args.to c.in_ok-new.new.items
laid c =
    let told = c.in_ok-splice.ensures.items in
    told.4 ∙ ap (splice c.args.pages.now.items c.args.from c.args.to) (spliced told.0 c.in_ok-new.new.items told.1 told.2.0 told.2.3 told.3)

pub returns-clause-ok : goal.returns-clause-ok
returns-clause-ok c =
    ap rows_of (laid c) ∙ rows_of-splice page_rows c.args.pages.now.items c.in_ok-new.new.items c.args.from c.args.to
    ∙ ap (λ (r : Rows). rows_of (take c.args.from c.args.pages.now.items) ++ (r ++ rows_of (drop c.args.to c.args.pages.now.items))) c.in_ok-new.ensures.rows

pub returns-clause-sized : goal.returns-clause-sized
returns-clause-sized c =
    subst AreSized (sym (laid c)) (AreSized-splice c.args.pages.now.items c.in_ok-new.new.items c.args.from c.args.to c.requires.sized c.in_ok-new.ensures.sized)
