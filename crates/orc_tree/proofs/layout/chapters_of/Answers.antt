use Rattle.std.proofs.Common.{◌≡◌, ◌++◌, take, drop, ap, sym, subst, ◌∙◌}
use Rattle.std.proofs.lemmas.List.{append_assoc}
use Rattle.std.proofs.lemmas.List.Elements.{All-take, All-drop}
use Rattle.orc_tree.specs.Pages.{page_rows, rows_of, IsSized, AreSized, chapters_rows}
use Rattle.orc_tree.proofs.Maps.{Rows}
use Rattle.orc_tree.proofs.Paged.{Pages, rows_of-cut}
use Rattle.orc_tree.proofs.layout.chapters_of.Goals as goal

pub push_chapter-requires-clause-sized : goal.push_chapter-requires-clause-sized
push_chapter-requires-clause-sized c = subst AreSized (sym c.in_ok-behind.ensures.items) (All-take IsSized c.args.laid c.loop-rest.rest.items c.loop-rest.invariant.sized)

pub loop-rest-preserved : goal.loop-rest-preserved
loop-rest-preserved c =
    let chapters = c.loop-rest.chapters.items in
    let rest = c.loop-rest.rest.items in
    let behind : c.in_ok-behind.behind.items ≡ drop c.args.laid rest = c.in_ok-behind.ensures.tail in
    record {
      rows = ap (λ (r : Rows). r ++ rows_of c.in_ok-behind.behind.items) c.in_ok-push_chapter.ensures.ok
          ∙ append_assoc (chapters_rows chapters) (rows_of c.split_off.new.self.items) (rows_of c.in_ok-behind.behind.items)
          ∙ ap (λ (r : Rows). chapters_rows chapters ++ r)
          (ap (λ (ps : Pages). rows_of ps ++ rows_of c.in_ok-behind.behind.items) c.in_ok-behind.ensures.items
          ∙ ap (λ (ps : Pages). rows_of (take c.args.laid rest) ++ rows_of ps) behind
          ∙ sym (rows_of-cut page_rows rest c.args.laid))
          ∙ c.loop-rest.invariant.rows;
      laid = c.push_chapter.ensures.laid;
      sized = subst AreSized (sym behind) (All-drop IsSized c.args.laid rest c.loop-rest.invariant.sized);
    }
